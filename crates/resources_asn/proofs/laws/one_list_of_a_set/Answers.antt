use Rattle.resources_asn.proofs.ListLemmas.{one_list}
use Rattle.resources_asn.proofs.laws.one_list_of_a_set.Goals as goal

pub returns : goal.returns
returns c = one_list
