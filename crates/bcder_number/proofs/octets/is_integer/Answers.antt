use Rattle.std.proofs.Common.{ℕ, get_or, Fits, w8, rules}
use Rattle.bcder_number.proofs.of_bcder_primitive.Numbers.{all_octets}
use Rattle.bcder_number.specs.Contents.{integer_told}
use Rattle.bcder_number.proofs.octets.is_integer.Goals as goal

pub returns : goal.returns
returns c =
    let v = c.args.octets.now in
    let fits : (i : ℕ) → Fits w8 (get_or v i 0) = search rules in
    (λ t. integer_told v (all_octets v fits) (c.is_shortest.ensures.0 t), λ i. c.is_shortest.ensures.1 i.shortest)
