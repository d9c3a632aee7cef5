-- What is left of the first slash's place.
use Rattle.std.proofs.Common.{refl, sym, arith}
use Rattle.std.proofs.lemmas.List.{take_rest, drop_all}
use Rattle.certs_basics.proofs.PathTexts.{behind-one}
use Rattle.certs_basics.proofs.uri.paths.behind_slash.Goals as goal

pub returns-then-len-text : goal.returns-then-len-text
returns-then-len-text c = rw (take_rest, behind-one c.args.text.now, ← c.segment_len-len.ensures.place) refl

pub returns-else-len-text : goal.returns-else-len-text
returns-else-len-text c = rw (behind-one c.args.text.now, ← c.segment_len-len.ensures.place) (sym (drop_all _ c.args.text.now (omega arith)))
