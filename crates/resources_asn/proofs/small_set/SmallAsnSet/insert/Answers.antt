use Rattle.std.proofs.Common.{refl, subst}
use Rattle.resources_asn.specs.Listed.{IsAscending}
use Rattle.resources_asn.proofs.Adding.{absent, added, found, on_err, one_there}
use Rattle.resources_asn.proofs.small_set.SmallAsnSet.insert.Goals as goal

pub returns-in_err-insert-in-Err-clause-memory : goal.returns-in_err-insert-in-Err-clause-memory
returns-in_err-insert-in-Err-clause-memory c =
    on_err c.from_residual.result (absent c.self.inside.asns.items c.deref.result.now _ c.args.asn.value c.in-Err.place c.deref.ensures.value c.self.view_is c.self.invariant c.in-Err.ensures.position)

pub invariant_of-self-in-Err : goal.invariant_of-self-in-Err
invariant_of-self-in-Err c =
    (added c.self.inside.asns.items c.deref.result.now c.insert.new.self.items _ c.args.asn c.in-Err.place c.deref.ensures.value c.self.view_is c.self.invariant c.in-Err.ensures.bound c.in-Err.ensures.position c.in_ok-insert-in-Err.ensures.items).ascending

pub returns-in-Ok-clause-added : goal.returns-in-Ok-clause-added
returns-in-Ok-clause-added c =
    one_there c.args.self.now c.args.asn.value (subst IsAscending c.self.view_is c.self.invariant) (found c.self.inside.asns.items c.deref.result.now _ c.args.asn _ c.deref.ensures.value c.self.view_is c.in-Ok.ensures.bound c.in-Ok.ensures.position)

pub returns-in-Ok-clause-new : goal.returns-in-Ok-clause-new
returns-in-Ok-clause-new c = (
  λ t. absurd cc,
  λ none. absurd (none (found c.self.inside.asns.items c.deref.result.now _ c.args.asn _ c.deref.ensures.value c.self.view_is c.in-Ok.ensures.bound c.in-Ok.ensures.position)),
)

pub returns-in-Ok-clause-known : goal.returns-in-Ok-clause-known
returns-in-Ok-clause-known c = (
  λ e. found c.self.inside.asns.items c.deref.result.now _ c.args.asn _ c.deref.ensures.value c.self.view_is c.in-Ok.ensures.bound c.in-Ok.ensures.position,
  λ i. refl,
)

pub returns-in_ok-insert-in-Err-clause-added : goal.returns-in_ok-insert-in-Err-clause-added
returns-in_ok-insert-in-Err-clause-added c =
    added c.self.inside.asns.items c.deref.result.now c.insert.new.self.items _ c.args.asn c.in-Err.place c.deref.ensures.value c.self.view_is c.self.invariant c.in-Err.ensures.bound c.in-Err.ensures.position c.in_ok-insert-in-Err.ensures.items

pub returns-in_ok-insert-in-Err-clause-new : goal.returns-in_ok-insert-in-Err-clause-new
returns-in_ok-insert-in-Err-clause-new c = (
  λ t. absent c.self.inside.asns.items c.deref.result.now _ c.args.asn.value c.in-Err.place c.deref.ensures.value c.self.view_is c.self.invariant c.in-Err.ensures.position,
  λ none. refl,
)

pub returns-in_ok-insert-in-Err-clause-known : goal.returns-in_ok-insert-in-Err-clause-known
returns-in_ok-insert-in-Err-clause-known c = (
  λ e. absurd cc,
  λ i. absurd (absent c.self.inside.asns.items c.deref.result.now _ c.args.asn.value c.in-Err.place c.deref.ensures.value c.self.view_is c.self.invariant c.in-Err.ensures.position i),
)

pub returns-in_ok-insert-in-Err-clause-same : goal.returns-in_ok-insert-in-Err-clause-same
returns-in_ok-insert-in-Err-clause-same c =
    λ i. absurd (absent c.self.inside.asns.items c.deref.result.now _ c.args.asn.value c.in-Err.place c.deref.ensures.value c.self.view_is c.self.invariant c.in-Err.ensures.position i)
