-- The place of the first LF, or the length.
use Rattle.std.proofs.Common.{◌==◌, not, arith, tests, rules}
use Rattle.std.proofs.lemmas.Bool.Decides.{nat_tests}
use Rattle.std.proofs.lemmas.Iterator.{YieldsList-from_slice}
use Rattle.std.proofs.lemmas.Iterator.Search.{position_from_yields_List}
use Rattle.std.proofs.lemmas.List.Sums.{prefix_len-le-length}
use Rattle.objects_payload.proofs.locator.lines.line_len.Goals as goal

pub returns-clause-place : goal.returns-clause-place
returns-clause-place c =
    let found = position_from_yields_List (λ x. x == 10) _ _ c.position.result c.position.ensures.ran (YieldsList-from_slice c.args.text.now cc) (λ x b q k. search (rules, tests)) in
    let bound = prefix_len-le-length (λ x. not (x == 10)) c.args.text.now in
    grind (arith, nat_tests)
