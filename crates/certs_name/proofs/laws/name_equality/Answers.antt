use Rattle.std.proofs.lemmas.Slice.Eq.{bytes_eq-Decides}
use Rattle.certs_name.proofs.NamesAgain.{same_attributes}
use Rattle.certs_name.proofs.laws.name_equality.Goals as goal

pub returns-clause-octets : goal.returns-clause-octets
returns-clause-octets c = λ a b. bytes_eq-Decides a.octets b.octets

pub returns-clause-attributes : goal.returns-clause-attributes
returns-clause-attributes c = λ a b all named e says. same_attributes a b all named ((bytes_eq-Decides a.octets b.octets).0 e) says
