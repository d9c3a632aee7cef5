use Rattle.std.proofs.Common.{◌≡◌, length, sym, ap, ◌∙◌, arith}
use Rattle.std.specs.Ordering.{nat_cmp, ordering_then}
use Rattle.std.specs.Cmp.Lexicographic.{slice_cmp}
use Rattle.rpki_bundle.specs.Bundle.{verdict_row}
use Rattle.rpki_bundle.proofs.Orders.{cmp_three, is_lt_less, less_is_lt}
use Rattle.rpki_bundle.proofs.forms.VerdictEntry.is_before.Goals as goal

pub returns : goal.returns
returns c =
    let v = c.args.self.now in
    let w = c.args.other.now in
    let key : length v.key ≡ length w.key = omega arith in
    let message : length v.message ≡ length w.message = omega arith in
    let rows = cmp_three v.key w.key v.message w.message v.signature w.signature key message in
    let answer : c.then-2.result ≡ slice_cmp nat_cmp (verdict_row v) (verdict_row w) =
    c.then-2.ensures ∙ ap (λ o. ordering_then o c.cmp-3.result) (c.then.ensures ∙ ap (λ o. ordering_then o c.cmp-2.result) c.cmp.ensures ∙ ap (ordering_then (slice_cmp nat_cmp v.key w.key)) c.cmp-2.ensures) ∙ ap (ordering_then (ordering_then (slice_cmp nat_cmp v.key w.key) (slice_cmp nat_cmp v.message w.message))) c.cmp-3.ensures ∙ sym rows in
    (λ t. sym answer ∙ is_lt_less c.then-2.result (sym c.is_lt.ensures ∙ t), λ b. c.is_lt.ensures ∙ less_is_lt c.then-2.result (answer ∙ b))
