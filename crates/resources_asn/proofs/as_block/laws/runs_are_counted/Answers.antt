use Rattle.resources_asn.proofs.LawLemmas.{counted}
use Rattle.resources_asn.proofs.as_block.laws.runs_are_counted.Goals as goal

pub returns : goal.returns
returns c = counted
