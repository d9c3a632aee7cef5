use Rattle.objects_rta_written.proofs.Writing.{key_text, key_trees}
use Rattle.objects_rta_written.proofs.attestation.EachKeyEncodesKeyIdentifier.values_of.Goals as goal

pub returns-clause-trees : goal.returns-clause-trees
returns-clause-trees c = key_trees _ _ c.as_slice.ensures.octets

pub returns-clause-writes : goal.returns-clause-writes
returns-clause-writes c = key_text _ _ c.as_slice.ensures.octets
