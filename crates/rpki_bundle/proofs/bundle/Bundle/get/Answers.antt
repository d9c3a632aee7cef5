use Rattle.std.proofs.Common.{◌∙◌, ap, sym, subst}
use Rattle.rpki_bundle.specs.Bundle.{BundleValue}
use Rattle.rpki_bundle.specs.declared.parts.Object.{Object}
use Rattle.rpki_bundle.specs.Orders.{Ascends}
use Rattle.certs_basics.specs.Uris.{IsUri, lookup_key}
use Rattle.rpki_bundle.proofs.Objects.{none_found}
use Rattle.rpki_bundle.proofs.Texts.{text_lawful}
use Rattle.rpki_bundle.proofs.bundle.Bundle.get.Goals as goal

pub find-requires : goal.find-requires
find-requires c = subst (Ascends (λ (o : Object). o.uri)) (sym c.as_slice.ensures.value) (text_lawful c.self.invariant.1).objects.ascend

pub returns-clause-none : goal.returns-clause-none
returns-clause-none c = none_found (IsUri c.args.uri.now) (lookup_key c.args.uri.now) c.find.result (c.as_slice.ensures.value ∙ ap (λ (b : BundleValue). b.objects) c.self.view_is) c.find.ensures.none
