use Rattle.bcder_primitive.specs.Values.{IsSigned}
use Rattle.bcder_primitive.specs.Writing.{HasLength}
use Rattle.bcder_primitive.proofs.WrittenNumbers.{of_type}
use Rattle.bcder_primitive.proofs.written.integers.I128PrimitiveContent.encoded_len.Goals as goal
use Rattle.std.proofs.Common.{ℤ, ◌^◌, List, ℕ, SFits, refl, rules}
use Rattle.std.specs.Int.{w128}

pub returns-clause-len : goal.returns-clause-len
returns-clause-len c =
    let fits : SFits w128 c.args.self.now = search rules in
    of_type w128 (λ (x : ℤ). HasLength (λ (text : List ℕ). IsSigned (2 ^ 127) text x) c.signed_len.result) _ _ fits fits refl (c.signed_len.ensures.len (2 ^ 127))
