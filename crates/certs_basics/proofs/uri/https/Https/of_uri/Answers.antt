-- Octets of URIs are UTF-8.
use Rattle.certs_basics.proofs.PathUris.{IsUtf8-from_plain}
use Rattle.certs_basics.proofs.uri.https.Https.of_uri.Goals as goal

pub from_known_utf8-requires : goal.from_known_utf8-requires
from_known_utf8-requires c = IsUtf8-from_plain c.args.octets c.requires.plain
