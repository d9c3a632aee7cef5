use Rattle.bcder_primitive.proofs.Numbers.{all_octets}
use Rattle.bcder_primitive.specs.Values.{IsSigned}
use Rattle.bcder_primitive.proofs.WrittenNumbers.{signed_is, refused_that}
use Rattle.bcder_primitive.proofs.Pieces.{wrote_that}
use Rattle.bcder_primitive.proofs.written.integers.put_signed.Goals as goal
use Rattle.std.proofs.Common.{ℕ, List, get_or, Fits, w8, sym, rules}
use Rattle.std.proofs.Math.Facts.{to_z-of_z}
use Rattle.std.proofs.lemmas.Result.{on_ok_weaker}

pub returns-clause-written : goal.returns-clause-written
returns-clause-written g c = λ bound low.
    let content = c.shortest-content.result.now in
    let s = c.shortest-content.ensures in
    let x = c.args.number in
    let fits : (i : ℕ) → Fits w8 (get_or content i 0) = search rules in
    let spelled = rw (to_z-of_z c.ranges.number) at c.twos_complement-octets.ensures in
    let steps = rw (to_z-of_z c.ranges.number) at c.steps_from_zero.ensures in
    on_ok_weaker _ (wrote_that content (signed_is (all_octets content fits) (s.shortest x (sym steps) spelled) (s.same x (sym steps) spelled) low)) c.write_octets.ensures.written

pub returns-clause-refused : goal.returns-clause-refused
returns-clause-refused g c = λ bound m low.
    let content = c.shortest-content.result.now in
    let s = c.shortest-content.ensures in
    let x = c.args.number in
    let fits : (i : ℕ) → Fits w8 (get_or content i 0) = search rules in
    let spelled = rw (to_z-of_z c.ranges.number) at c.twos_complement-octets.ensures in
    let steps = rw (to_z-of_z c.ranges.number) at c.steps_from_zero.ensures in
    refused_that m (λ (text : List ℕ). IsSigned bound text x) _ _ _ _ content (signed_is (all_octets content fits) (s.shortest x (sym steps) spelled) (s.same x (sym steps) spelled) low) c.write_octets.ensures.refused
