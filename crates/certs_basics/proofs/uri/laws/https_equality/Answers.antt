use Rattle.certs_basics.proofs.UriLaws.{order_tells}
use Rattle.certs_basics.proofs.uri.laws.https_equality.Goals as goal

pub returns-clause-order : goal.returns-clause-order
returns-clause-order c = order_tells
