use Rattle.objects_rta_anchors.proofs.Ending.{ends_more, ends_none}
use Rattle.objects_rta_anchors.proofs.ends.last_places.Goals as goal

pub loop-signer-init : goal.loop-signer-init
loop-signer-init c = ends_none c.args.paths.now.paths c.new-ends.result.items c.new-ends.ensures.items

pub loop-signer-preserved : goal.loop-signer-preserved
loop-signer-preserved c =
    ends_more c.args.paths.now.paths c.loop-signer.signer c.path.result c.loop-signer.ends.items _ c.last_place.result c.in_ok-push.ensures.items c.path.ensures.path c.last_place.ensures c.loop-signer.invariant
