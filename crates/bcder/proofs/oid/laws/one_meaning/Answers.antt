use Rattle.bcder.proofs.of_bcder_content.Unique.{octets_one}
use Rattle.bcder.proofs.Read.{oid_one}
use Rattle.bcder.proofs.oid.laws.one_meaning.Goals as goal

pub returns : goal.returns
returns c = octets_one oid_one
