-- The place of the last slash.
use Rattle.std.proofs.Common.{sym, rules}
use Rattle.certs_basics.proofs.PathTexts.{to_last_slash-at, to_last_slash-none, no_slash-from_get}
use Rattle.certs_basics.proofs.uri.paths.to_last_slash.Goals as goal

pub returns-in-Some : goal.returns-in-Some
returns-in-Some c = to_last_slash-at c.args.text.now c.in-Some.place (search rules) (search rules) (search rules)

pub returns-in-None : goal.returns-in-None
returns-in-None c = sym (to_last_slash-none c.args.text.now (no_slash-from_get c.args.text.now (search rules)))
