use Rattle.resources_asn.proofs.CountLemmas.{runs_list}
use Rattle.resources_asn.proofs.as_block.laws.runs_are_listed.Goals as goal

pub returns : goal.returns
returns c = runs_list
