-- The law is a lemma.
use Rattle.certs_basics.proofs.UriLaws.{IsLookupKey-lookup_key}
use Rattle.certs_basics.proofs.uri.laws.lookup_key_of_uri.Goals as goal

pub returns : goal.returns
returns c = IsLookupKey-lookup_key
