-- The law is a lemma.
use Rattle.certs_basics.proofs.UriLaws.{lookup_key-lookup_key}
use Rattle.certs_basics.proofs.uri.laws.lookup_key_twice.Goals as goal

pub returns : goal.returns
returns c = lookup_key-lookup_key
