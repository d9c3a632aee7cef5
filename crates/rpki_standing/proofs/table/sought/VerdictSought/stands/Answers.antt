use Rattle.std.proofs.Common.{◌≡◌, length, sym, ap, ◌∙◌, arith}
use Rattle.std.specs.Ordering.{nat_cmp, ordering_then}
use Rattle.std.specs.Cmp.Lexicographic.{slice_cmp}
use Rattle.rpki_rules.proofs.of_rpki_bundle.Orders.{cmp_three}
use Rattle.rpki_standing.proofs.table.sought.VerdictSought.stands.Goals as goal

pub returns : goal.returns
returns c =
    let v = c.args.entry.now in
    let w = c.args.self.now in
    let key : length v.key ≡ length w.key = omega arith in
    let message : length v.message ≡ length w.message = omega arith in
    let rows = cmp_three v.key w.key v.message w.message v.signature w.signature key message in
    c.behind.ensures ∙ ap (λ o. ordering_then o (slice_cmp nat_cmp v.signature w.signature)) (c.behind-fronts.ensures ∙ ap (λ o. ordering_then o (slice_cmp nat_cmp v.message w.message)) c.cmp-keys.ensures) ∙ sym rows
