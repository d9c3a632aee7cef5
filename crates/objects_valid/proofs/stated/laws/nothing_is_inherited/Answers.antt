use Rattle.objects_valid.proofs.Parts.{own_asn, own_v4, own_v6}
use Rattle.objects_valid.proofs.stated.laws.nothing_is_inherited.Goals as goal

pub returns-clause-asn : goal.returns-clause-asn
returns-clause-asn c = own_asn

pub returns-clause-v4 : goal.returns-clause-v4
returns-clause-v4 c = own_v4

pub returns-clause-v6 : goal.returns-clause-v6
returns-clause-v6 c = own_v6
