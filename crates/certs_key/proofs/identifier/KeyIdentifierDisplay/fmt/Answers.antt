use Rattle.std.proofs.Common.{ℕ, List, ap, ◌∙◌, subst}
use Rattle.std.proofs.lemmas.Str.{IsUtf8-from_ascii}
use Rattle.std.specs.Fmt.{HasWritten}
use Rattle.hex.specs.Hex.{encode_lower}
use Rattle.certs_key.specs.certs_basics.Names.{hex_text}
use Rattle.certs_key.proofs.Identifying.{hex_is, hex_ascii}
use Rattle.certs_key.proofs.identifier.KeyIdentifierDisplay.fmt.Goals as goal

pub unreachable-requires-in_default-from_utf8 : goal.unreachable-requires-in_default-from_utf8
unreachable-requires-in_default-from_utf8 g c =
    let v = c.as_slice.result.now in
    c.in_default-from_utf8.ensures.cases.0 (rw c.in-Ok.ensures.written (IsUtf8-from_ascii (encode_lower v) (hex_ascii v)))

pub returns-clause-writes : goal.returns-clause-writes
returns-clause-writes g c =
    let text = c.in-Ok-from_utf8.ensures.cases.0 ∙ c.in-Ok.ensures.written ∙ hex_is c.as_slice.result.now ∙ ap hex_text c.as_slice.ensures.octets in
    λ plain ok. subst (λ (t : List ℕ). HasWritten g.W.Write.write_str_gives c.args.f.now t c.write_str.new.self) text (c.write_str.ensures.writes plain ok)
