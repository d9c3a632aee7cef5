use Rattle.std.proofs.Common.{[], refl, sym, subst}
use Rattle.certs_name.proofs.of_bcder_content.Forests.{there, absent}
use Rattle.certs_name.proofs.of_bcder_content.Gathering.{gather_begin, gather_next, gather_stop, gather_refused, gather_end}
use Rattle.certs_name.proofs.of_bcder_content.Taking.{on_content}
use Rattle.certs_name.specs.Inspected.{Together}
use Rattle.certs_name.proofs.Sightings.{relative_one, relative_tagged, together_next, together_never}
use Rattle.certs_name.proofs.inspect.take_relative_names.Goals as goal

pub names-init : goal.names-init
names-init g c = gather_begin (subst (Together []) (sym c.none-seen.ensures) (record { common = refl; serial = refl }))

pub returns-in_err-more-clause-reads : goal.returns-in_err-more-clause-reads
returns-in_err-more-clause-reads g c = gather_stop _ _ c.names.invariant c.from_residual.ensures c.in_err-more.ensures.reads

pub returns-in_default-and-clause-reads : goal.returns-in_default-and-clause-reads
returns-in_default-and-clause-reads g c =
    let i = c.names.invariant in
    let x = there _ _ _ c.in-Some.is c.in_ok-more.ensures.reads in
    record { reads = on_content c.content_err.result (gather_refused (λ m. relative_one c.args.strict) i x (λ ys t h. together_never i.xs ys c.names.seen c.in-Some.more t i.says c.in_default-and.ensures.none h)) }

pub names-preserved : goal.names-preserved
names-preserved g c =
    let i = c.names.invariant in
    gather_next (λ m. relative_one c.args.strict) i (there _ _ _ c.in-Some.is c.in_ok-more.ensures.reads) (together_next i.xs c.names.seen c.in-Some.more c.in-Some-and.both i.says c.in-Some-and.ensures.some)

pub returns-clause-reads : goal.returns-clause-reads
returns-clause-reads g c = gather_end c.names.invariant (λ m. relative_tagged c.args.strict) (absent _ _ _ c.in_default.is c.in_ok-more.ensures.reads) refl
