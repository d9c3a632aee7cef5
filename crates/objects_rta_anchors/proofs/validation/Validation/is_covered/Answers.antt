use Rattle.objects_rta_anchors.proofs.Finishing.{all_kinds}
use Rattle.objects_rta_anchors.proofs.validation.Validation.is_covered.Goals as goal

pub returns : goal.returns
returns c = all_kinds c.args.self.now c.in_ok-v4.v4 c.in_ok-v6.v6 c.in_ok-asn.asn c.are_all-are_same.result c.are_all-are_same.ensures c.in_ok-v4.ensures c.in_ok-v6.ensures c.in_ok-asn.ensures
