use Rattle.std.proofs.Common.{◌+◌, ◌^◌, ◌≤◌, arith}
use Rattle.bcder_primitive.specs.Plain.{plain}
use Rattle.bcder_primitive.specs.Values.{IsSigned}
use Rattle.bcder_primitive.proofs.Numbers.{few_signed}
use Rattle.bcder_primitive.proofs.Primitives.{through, lacks_few, refused_whole, only_content}
use Rattle.bcder_primitive.proofs.primitive.Primitive.signed.Goals as goal

pub returns-in_err-count-clause-reads : goal.returns-in_err-count-clause-reads
returns-in_err-count-clause-reads g c =
    let bound : c.args.max + 1 ≤ 2 ^ 127 = omega arith in
    through (λ n. n) (IsSigned (c.args.max + 1)) (plain g.S.Source.rest c.args.self.now) _ c.from_residual.result _ c.from_residual.ensures.0 c.from_residual.ensures.1
    (lacks_few (IsSigned (c.args.max + 1)) (plain g.S.Source.rest c.args.self.now) _ (λ text x is. few_signed text x bound is) c.in_err-count.ensures.refused)

pub returns-in-None-clause-reads : goal.returns-in-None-clause-reads
returns-in-None-clause-reads g c = refused_whole (IsSigned (c.args.max + 1)) c.refuse.result c.in_ok-count.ensures.same c.in_ok-count.ensures.all c.front.ensures.value c.in-None.ensures.none (only_content _ c.refuse.result c.refuse.ensures.error)
