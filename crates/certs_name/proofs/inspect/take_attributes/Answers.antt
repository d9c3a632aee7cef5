use Rattle.std.proofs.Common.{[], refl, sym, subst}
use Rattle.certs_name.proofs.of_bcder_content.Forests.{there, absent}
use Rattle.certs_name.proofs.of_bcder_content.Gathering.{gather_begin, gather_next, gather_stop, gather_refused, gather_end}
use Rattle.certs_name.proofs.of_bcder_content.Taking.{on_content}
use Rattle.certs_name.specs.Inspected.{Together}
use Rattle.certs_name.proofs.Sightings.{seen_one, seen_tagged, together_next, together_never}
use Rattle.certs_name.proofs.inspect.take_attributes.Goals as goal

pub attributes-init : goal.attributes-init
attributes-init g c = gather_begin (subst (Together []) (sym c.none-seen.ensures) (record { common = refl; serial = refl }))

pub returns-in_err-attribute-clause-reads : goal.returns-in_err-attribute-clause-reads
returns-in_err-attribute-clause-reads g c = gather_stop _ _ c.attributes.invariant c.from_residual.ensures c.in_err-attribute.ensures.reads

pub returns-in_default-and-clause-reads : goal.returns-in_default-and-clause-reads
returns-in_default-and-clause-reads g c =
    let i = c.attributes.invariant in
    let x = there _ _ _ c.in-Some.is c.in_ok-attribute.ensures.reads in
    record { reads = on_content c.content_err.result (gather_refused (λ m. seen_one c.args.strict) i x (λ ys t h. together_never i.xs ys c.attributes.seen c.in-Some.attribute t i.says c.in_default-and.ensures.none h)) }

pub attributes-preserved : goal.attributes-preserved
attributes-preserved g c =
    let i = c.attributes.invariant in
    gather_next (λ m. seen_one c.args.strict) i (there _ _ _ c.in-Some.is c.in_ok-attribute.ensures.reads) (together_next i.xs c.attributes.seen c.in-Some.attribute c.in-Some-and.both i.says c.in-Some-and.ensures.some)

pub returns-clause-reads : goal.returns-clause-reads
returns-clause-reads g c = gather_end c.attributes.invariant (λ m. seen_tagged c.args.strict) (absent _ _ _ c.in_default.is c.in_ok-attribute.ensures.reads) refl
