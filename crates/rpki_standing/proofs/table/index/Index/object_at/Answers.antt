use Rattle.std.proofs.Common.{ap, ◌∙◌, subst}
use Rattle.rpki_standing.specs.rpki_bundle.Bundle.{BundleValue}
use Rattle.rpki_standing.specs.rpki_bundle.Orders.{Ascends}
use Rattle.rpki_standing.specs.rpki_bundle.declared.parts.Object.{Object}
use Rattle.rpki_rules.specs.certs_basics.Uris.{lookup_key}
use Rattle.rpki_standing.proofs.Lists.{none_told, place_told}
use Rattle.rpki_standing.proofs.table.index.Index.object_at.Goals as goal

pub returns-in_err-place-clause-none : goal.returns-in_err-place-clause-none
returns-in_err-place-clause-none c =
    none_told c.objects-objects.result.now c.args.self.now.objects (lookup_key c.args.uri.now) c.from_residual.result (c.objects-objects.ensures ∙ ap (λ (b : BundleValue). b.objects) c.self.view_is) c.in_err-place.ensures.place

pub returns-clause-found : goal.returns-clause-found
returns-clause-found c =
    let ascend = subst (λ (b : BundleValue). Ascends (λ (o : Object). o.uri) b.objects) c.self.view_is c.self.invariant.objects.ascend in
    place_told c.objects-objects.result.now c.args.self.now.objects (lookup_key c.args.uri.now) c.in_ok-place.place c.index-objects-place.result (c.objects-objects.ensures ∙ ap (λ (b : BundleValue). b.objects) c.self.view_is) ascend c.in_ok-place.ensures.place c.index-objects-place.is
