use Rattle.bcder_primitive.proofs.Numbers.{all_octets}
use Rattle.bcder_primitive.specs.Integers.{WritesUnsigned}
use Rattle.bcder_primitive.proofs.WrittenNumbers.{unsigned_is, refused_that}
use Rattle.bcder_primitive.proofs.Pieces.{wrote_that}
use Rattle.bcder_primitive.proofs.written.integers.put_unsigned.Goals as goal
use Rattle.std.proofs.Common.{ℕ, get_or, Fits, w8, refl, rules}
use Rattle.std.proofs.lemmas.Result.{on_ok_weaker}
use Rattle.std.specs.Prelude.{pos}

pub returns-clause-written : goal.returns-clause-written
returns-clause-written g c = λ bound low.
    let content = c.shortest-content.result.now in
    let s = c.shortest-content.ensures in
    let x = pos c.args.number in
    let spelled = c.padded-octets.ensures in
    let fits : (i : ℕ) → Fits w8 (get_or content i 0) = search rules in
    on_ok_weaker _ (wrote_that content (unsigned_is (all_octets content fits) (s.shortest x refl spelled) (s.same x refl spelled) low)) c.write_octets.ensures.written

pub returns-clause-refused : goal.returns-clause-refused
returns-clause-refused g c = λ bound m low.
    let content = c.shortest-content.result.now in
    let s = c.shortest-content.ensures in
    let x = pos c.args.number in
    let spelled = c.padded-octets.ensures in
    let fits : (i : ℕ) → Fits w8 (get_or content i 0) = search rules in
    refused_that m (WritesUnsigned bound c.args.number) _ _ _ _ content (unsigned_is (all_octets content fits) (s.shortest x refl spelled) (s.same x refl spelled) low) c.write_octets.ensures.refused
