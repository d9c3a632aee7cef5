use Rattle.std.proofs.Common.{◌<◌, length, refl, arith}
use Rattle.std.proofs.lemmas.Option.{slice_get_within}
use Rattle.objects_rta_anchors.specs.declared.anchor.Anchor.TheVariants.{Open}
use Rattle.objects_rta_anchors.proofs.anchor.are_anchored.Goals as goal

pub returns : goal.returns
returns c = (
  (λ t k e. let inside : k < length c.args.anchors.now = slice_get_within c.args.anchors.now k Open e in c.loop-signer.invariant k (omega (arith, inside, c.loop-signer-test.false)) e),
  (λ all. refl),
)
