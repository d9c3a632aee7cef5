use Rattle.std.proofs.Common.{subst, rules}
use Rattle.objects_payload.specs.certs_basics.Uris.{IsUri}
use Rattle.objects_payload.specs.Uris.{text_of}
use Rattle.objects_payload.proofs.UriLines.{https_test}
use Rattle.objects_payload.proofs.locator.uri.TalUri.is_https.Goals as goal

pub returns-clause-scheme : goal.returns-clause-scheme
returns-clause-scheme c = https_test (text_of c.args.self.now) c.is_https.result (subst IsUri c.as_str.ensures.text c.as_str.ensures.uri) (search rules)
