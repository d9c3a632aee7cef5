use Rattle.objects_rta_valid.specs.Places.{first_of}
use Rattle.objects_rta_valid.proofs.Flat.{flat_step}
use Rattle.objects_rta_valid.proofs.places.first_places.Goals as goal

pub loop-signer-preserved : goal.loop-signer-preserved
loop-signer-preserved c = rw c.in_ok-push_first.ensures (flat_step first_of c.args.paths.now.paths c.loop-signer.signer c.path.result c.loop-signer.firsts.items _ c.path.ensures.path c.loop-signer.invariant)
