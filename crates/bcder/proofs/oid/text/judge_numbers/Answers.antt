use Rattle.std.proofs.Common.{[], ◌∷◌, ◌++◌, rules}
use Rattle.bcder.proofs.Dots.{last_read, go_on, refused_piece, through, component_why}
use Rattle.bcder.proofs.oid.text.judge_numbers.Goals as goal

pub returns-in_err-component-clause-refused : goal.returns-in_err-component-clause-refused
returns-in_err-component-clause-refused c =
    through c.from_residual.result c.in_err-component.field-0.0 c.from_residual.ensures (refused_piece c.piece.result.1 c.loop-behind.invariant.going c.piece.ensures) c.in_err-component.ensures.refused

pub returns-in_default-clause-reads : goal.returns-in_default-clause-reads
returns-in_default-clause-reads c =
    (c.loop-behind.invariant.done ++ c.in_ok-component.field-0 ∷ [], last_read c.loop-behind.invariant.going (rw c.in_default.is at c.piece.ensures) c.in_ok-component.ensures.reads)

pub loop-behind-preserved : goal.loop-behind-preserved
loop-behind-preserved c = record {
  text = search rules;
  done = c.loop-behind.invariant.done ++ c.in_ok-component.field-0 ∷ [];
  going = go_on c.loop-behind.invariant.going (rw c.in-Some.is at c.piece.ensures) c.in_ok-component.ensures.reads;
}

pub returns-in_err-component-clause-cause : goal.returns-in_err-component-clause-cause
returns-in_err-component-clause-cause c =
    component_why c.from_residual.result c.in_err-component.field-0.0 c.from_residual.ensures c.in_err-component.ensures.cause (refused_piece c.piece.result.1 c.loop-behind.invariant.going c.piece.ensures) c.in_err-component.ensures.refused
