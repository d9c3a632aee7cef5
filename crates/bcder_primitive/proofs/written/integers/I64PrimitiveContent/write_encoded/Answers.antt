use Rattle.bcder_primitive.specs.Values.{IsSigned}
use Rattle.bcder_primitive.specs.Contents.{ContentRefused}
use Rattle.bcder_primitive.specs.Writing.{Wrote}
use Rattle.bcder_primitive.proofs.WrittenNumbers.{of_type}
use Rattle.bcder_primitive.proofs.written.integers.I64PrimitiveContent.write_encoded.Goals as goal
use Rattle.std.proofs.Common.{◌≡◌, ℤ, ◌^◌, List, ℕ, SFits, ◌∙◌, rules}
use Rattle.std.proofs.Math.Facts.{to_z-of_z}
use Rattle.std.specs.Int.{w64, w128}
use Rattle.std.specs.Prelude.{IfErr, OnOk}

pub returns-clause-written : goal.returns-clause-written
returns-clause-written g c =
    let fits : SFits w64 c.args.self.now = search rules in
    let wide : SFits w128 c.args.self.now = search rules in
    let old = g.W.Write.contents c.args.target.now in
    let new = g.W.Write.contents c.put_signed.new.target in
    of_type w64 (λ (x : ℤ). OnOk c.put_signed.result (Wrote (λ (text : List ℕ). IsSigned (2 ^ 63) text x) old new)) _ _ fits wide (c.from.ensures ∙ to_z-of_z fits) (c.put_signed.ensures.written (2 ^ 63))

pub returns-clause-refused : goal.returns-clause-refused
returns-clause-refused g c =
    let fits : SFits w64 c.args.self.now = search rules in
    let wide : SFits w128 c.args.self.now = search rules in
    let old = g.W.Write.contents c.args.target.now in
    let new = g.W.Write.contents c.put_signed.new.target in
    of_type w64 (λ (x : ℤ). IfErr c.put_signed.result (ContentRefused c.args._mode (λ (text : List ℕ). IsSigned (2 ^ 63) text x) (c.put_signed.new.target ≡ c.args.target.now) old new)) _ _ fits wide (c.from.ensures ∙ to_z-of_z fits) (c.put_signed.ensures.refused (2 ^ 63) c.args._mode)
