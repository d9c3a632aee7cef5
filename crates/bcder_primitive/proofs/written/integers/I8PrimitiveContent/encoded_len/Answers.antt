use Rattle.bcder_primitive.specs.Values.{IsSigned}
use Rattle.bcder_primitive.specs.Writing.{HasLength}
use Rattle.bcder_primitive.proofs.WrittenNumbers.{of_type}
use Rattle.bcder_primitive.proofs.written.integers.I8PrimitiveContent.encoded_len.Goals as goal
use Rattle.std.proofs.Common.{ℤ, ◌^◌, List, ℕ, SFits, ◌∙◌, rules}
use Rattle.std.proofs.Math.Facts.{to_z-of_z}
use Rattle.std.specs.Int.{w8, w128}

pub returns-clause-len : goal.returns-clause-len
returns-clause-len c =
    let fits : SFits w8 c.args.self.now = search rules in
    let wide : SFits w128 c.args.self.now = search rules in
    of_type w8 (λ (x : ℤ). HasLength (λ (text : List ℕ). IsSigned (2 ^ 7) text x) c.signed_len.result) _ _ fits wide (c.from.ensures ∙ to_z-of_z fits) (c.signed_len.ensures.len (2 ^ 7))
