use Rattle.std.proofs.Common.{ℕ, List, drop, ap, ◌∙◌, subst}
use Rattle.std.specs.Fmt.{HasWritten}
use Rattle.certs_name.proofs.Digits.{digits_in_utf8}
use Rattle.certs_name.proofs.serial_text.SerialDisplay.fmt.Goals as goal

pub unreachable-requires : goal.unreachable-requires
unreachable-requires g c =
    let d = c.decimal_digits-begin in
    let behind = c.split_at.ensures.back ∙ ap (λ (v : List ℕ). drop d.result.1 v) c.as_slice.ensures in
    c.in_default.ensures.cases.0 (digits_in_utf8 _ _ (behind ∙ d.ensures.digits) d.ensures.below)

pub returns-clause-writes : goal.returns-clause-writes
returns-clause-writes g c =
    let d = c.decimal_digits-begin in
    let behind = c.split_at.ensures.back ∙ ap (λ (v : List ℕ). drop d.result.1 v) c.as_slice.ensures in
    let text = c.in-Ok.ensures.cases.0 ∙ behind ∙ d.ensures.digits in
    λ plain ok. subst (λ (t : List ℕ). HasWritten g.W.Write.write_str_gives c.args.f.now t c.write_str.new.self) text (c.write_str.ensures.writes plain ok)
