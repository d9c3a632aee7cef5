use Rattle.objects_rta_written.proofs.Writing.{signed_text, signed_trees}
use Rattle.objects_rta_written.proofs.object.EachCrlEncodesCrl.values_of.Goals as goal

pub returns-clause-trees : goal.returns-clause-trees
returns-clause-trees c = signed_trees c.encode_ref.result _ c.encode_ref.ensures

pub returns-clause-writes : goal.returns-clause-writes
returns-clause-writes c = signed_text c.encode_ref.result _ c.encode_ref.ensures
