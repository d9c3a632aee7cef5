use Rattle.std.proofs.Common.{ℕ, List, subst, sym}
use Rattle.std.specs.Prelude.{chars, encode_utf8}
use Rattle.bcder.specs.Sets.{IsUnicode}
use Rattle.bcder.specs.Texts.{Tells}
use Rattle.bcder.proofs.Unicode.{utf8_tells}
use Rattle.bcder.proofs.string.sets.Utf8CharSetCharSet.from_str.Goals as goal

pub returns-clause-told : goal.returns-clause-told
returns-clause-told c = subst (λ (o : List ℕ). Tells IsUnicode encode_utf8 o (chars c.args.text.now)) (sym c.as_bytes.ensures.value) (utf8_tells c.args.text.now c.utf8.text)
