use Rattle.std.proofs.Common.{rules, IsTrue, ℤ, sym, subst}
use Rattle.bcder_number.specs.bcder_source.declared.error.DecodeError.{DecodeError}
use Rattle.bcder_number.specs.bcder_source.Errors.{OnContent}
use Rattle.bcder_number.specs.bcder_primitive.Plain.{plain, LacksOctets}
use Rattle.bcder_number.proofs.of_bcder_primitive.Primitives.{through, weaker}
use Rattle.bcder_number.proofs.of_bcder_content.Memories.{wanted}
use Rattle.bcder_values.proofs.of_bcder_content.Wholes.{lacks_any, lacks_front, has_whole}
use Rattle.bcder_values.proofs.of_bcder_content.Wants.{no_want_through}
use Rattle.bcder_number.specs.Integers.{IsInteger}
use Rattle.bcder_number.proofs.integer.Integer.from_primitive.Goals as goal

pub returns-in_err-count-clause-reads : goal.returns-in_err-count-clause-reads
returns-in_err-count-clause-reads g c =
    through (λ x. x) IsInteger (plain g.S.Source.rest c.args.prim.now) _ c.from_residual.result _ c.from_residual.ensures.0 c.from_residual.ensures.1
    (weaker _ (lacks_any IsInteger (plain g.S.Source.rest c.args.prim.now)) c.in_err-count.ensures.refused)

pub returns-in_err-count-clause-memory : goal.returns-in_err-count-clause-memory
returns-in_err-count-clause-memory g c = no_want_through _ _ c.from_residual.result _ c.from_residual.ensures.0 c.from_residual.ensures.1 c.in_err-count.ensures.refused

pub returns-in-Err-clause-memory : goal.returns-in-Err-clause-memory
returns-in-Err-clause-memory g c =
    let t : IsTrue c.is_integer-is_integer.result = search rules in
    let had = c.in_ok-count.ensures in
    wanted c.in-Err.error (has_whole IsInteger had.same had.sound had.all c.front.ensures.there c.front.ensures.value (c.is_integer-is_integer.ensures.0 t))

pub returns-then-not-is_integer-clause-reads : goal.returns-then-not-is_integer-clause-reads
returns-then-not-is_integer-clause-reads g c =
    let had = c.in_ok-count.ensures in
    let none : (x : ℤ) → IsInteger c.front.result.now x → ⊥ = search rules in
    let lacks : LacksOctets IsInteger (plain g.S.Source.rest c.args.prim.now) = lacks_front IsInteger had.same had.all c.front.ensures.value none in
    subst (λ (e : DecodeError _). OnContent e (LacksOctets IsInteger (plain g.S.Source.rest c.args.prim.now))) (sym c.content_err.ensures) lacks
