use Rattle.std.proofs.Common.{refl, ◌∙◌}
use Rattle.bcder_content.specs.Here.{here}
use Rattle.bcder_content.specs.ClosureReads.{refused, goes_on}
use Rattle.bcder_content.proofs.Taking.{on_content, only_on, ran_on, tag_named}
use Rattle.bcder_content.proofs.Memories.{no_want, wanted}
use Rattle.bcder_content.proofs.constructed.Constructed.take_constructed_if.Goals as goal

pub returns-in-Err-op-clause-ran : goal.returns-in-Err-op-clause-ran
returns-in-Err-op-clause-ran g c = record {
  cases = on_content c.in-Err-op.error (refused c.in-Ok.outer.span (here g.S.Source.rest c.op.new.arg2) (ran_on c.open_if.new.self c.op.new.arg2 c.in-Ok.ensures.entered (record { shown = _; shows = refl; left = _; met = c.in-Err-op.ensures; leaves = refl })));
}

pub returns-in-Ok-close-clause-ran : goal.returns-in-Ok-close-clause-ran
returns-in-Ok-close-clause-ran g c = let l = c.in-Ok-close.ensures.left in record {
  cases = (
    c.in-Ok.outer.span,
    here g.S.Source.rest c.op.new.arg2,
    ran_on c.open_if.new.self c.op.new.arg2 c.in-Ok.ensures.entered (record { shown = _; shows = refl; left = _; met = c.in-Ok-op.ensures; leaves = refl }),
    record { closes = l.closes; mode = l.mode_is ∙ c.in-Ok.ensures.around.0; ending = l.end_is ∙ c.in-Ok.ensures.around.1; sound = l.sound; behind = l.behind },
  );
}

pub returns-in-Err-close-clause-ran : goal.returns-in-Err-close-clause-ran
returns-in-Err-close-clause-ran g c = record {
  cases = only_on c.in-Err-close.error (goes_on c.in-Ok.outer.span (here g.S.Source.rest c.op.new.arg2) c.in-Ok-op.value (ran_on c.open_if.new.self c.op.new.arg2 c.in-Ok.ensures.entered (record { shown = _; shows = refl; left = _; met = c.in-Ok-op.ensures; leaves = refl }))) c.in-Err-close.ensures.refused;
}

pub returns-in-Err-clause-memory : goal.returns-in-Err-clause-memory
returns-in-Err-clause-memory g c = no_want _ _ c.in-Err.error c.in-Err.ensures.refused

pub returns-in-Err-op-clause-memory : goal.returns-in-Err-op-clause-memory
returns-in-Err-op-clause-memory g c = wanted c.in-Err-op.error (record {
  span = c.in-Ok.outer.span;
  end = here g.S.Source.rest c.op.new.arg2;
  ran = ran_on c.open_if.new.self c.op.new.arg2 c.in-Ok.ensures.entered (record { shown = _; shows = refl; left = _; met = c.in-Err-op.ensures; leaves = refl });
})

pub returns-in-Err-close-clause-memory : goal.returns-in-Err-close-clause-memory
returns-in-Err-close-clause-memory g c = no_want _ _ c.in-Err-close.error c.in-Err-close.ensures.refused

pub returns-in-Err-op-clause-named : goal.returns-in-Err-op-clause-named
returns-in-Err-op-clause-named g c = tag_named c.in-Err-op.error c.in-Ok.ensures.entered

pub returns-in-Err-close-clause-named : goal.returns-in-Err-close-clause-named
returns-in-Err-close-clause-named g c = tag_named c.in-Err-close.error c.in-Ok.ensures.entered
