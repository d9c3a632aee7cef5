use Rattle.std.proofs.Common.{List, ℕ, rules, sym, subst}
use Rattle.bcder.proofs.Dots.{Going, go_on, refused_piece, through, component_why}
use Rattle.bcder.proofs.oid.text.read_numbers.Goals as goal

pub returns-in_err-number-clause-refused : goal.returns-in_err-number-clause-refused
returns-in_err-number-clause-refused c =
    through c.from_residual.result c.in_err-number.field-0.0 c.from_residual.ensures (refused_piece c.piece.result.1 c.loop-numbers.invariant.going c.piece.ensures) c.in_err-number.ensures.refused

pub loop-numbers-preserved : goal.loop-numbers-preserved
loop-numbers-preserved c = record {
  text = search rules;
  going = subst (λ (z : List ℕ). Going c.args.text.now z c.in-Some.behind.now) (sym c.in-Ok.ensures.items) (go_on c.loop-numbers.invariant.going (rw c.in-Some.is at c.piece.ensures) c.in_ok-number.ensures.reads);
}

pub returns-in_err-number-clause-cause : goal.returns-in_err-number-clause-cause
returns-in_err-number-clause-cause c =
    component_why c.from_residual.result c.in_err-number.field-0.0 c.from_residual.ensures c.in_err-number.ensures.cause (refused_piece c.piece.result.1 c.loop-numbers.invariant.going c.piece.ensures) c.in_err-number.ensures.refused
