use Rattle.std.proofs.Common.{refl}
use Rattle.bcder_content.specs.Here.{here}
use Rattle.bcder_content.proofs.SkipSteps.{content_weaker}
use Rattle.bcder_content.proofs.SkipContents.{all_first, all_next, all_done, all_refused, all_unended}
use Rattle.bcder_content.proofs.Memories.{memory_weaker}
use Rattle.bcder_content.proofs.Lending.{same_on}
use Rattle.bcder_content.proofs.Took.{took_shorter}
use Rattle.bcder_content.proofs.constructed.Constructed.skip_all.Goals as goal

pub loop-error-init : goal.loop-error-init
loop-error-init g c = record { under = all_first (here g.S.Source.rest c.args.self.now); frame = record { form = refl; start = refl } }

pub loop-error-smaller : goal.loop-error-smaller
loop-error-smaller g c =
    let s = rw c.in-Ok-Some.field-0-is at c.in-Ok-Some.ensures.skipped in
    took_shorter (here g.S.Source.rest c.loop-error.self) (here g.S.Source.rest c.skip_one.new.self) s.tree s.took

pub loop-error-preserved : goal.loop-error-preserved
loop-error-preserved g c =
    let s = rw c.in-Ok-Some.field-0-is at c.in-Ok-Some.ensures.skipped in
    record { under = all_next (here g.S.Source.rest c.args.self.now) (here g.S.Source.rest c.loop-error.self) (here g.S.Source.rest c.skip_one.new.self) s.tree c.loop-error.invariant.under s.took; frame = same_on c.loop-error.invariant.frame c.in-Ok-Some.ensures.frame }

pub returns-in-Ok-None-clause-skipped : goal.returns-in-Ok-None-clause-skipped
returns-in-Ok-None-clause-skipped g c =
    let s = rw c.in-Ok-None.field-0-is at c.in-Ok-None.ensures.skipped in
    all_done (here g.S.Source.rest c.args.self.now) (here g.S.Source.rest c.loop-error.self) (here g.S.Source.rest c.skip_one.new.self) c.loop-error.invariant.under s.0 s.1

pub returns-in-Err-clause-refused : goal.returns-in-Err-clause-refused
returns-in-Err-clause-refused g c = content_weaker c.in-Err.error _ _ (all_refused (here g.S.Source.rest c.args.self.now) (here g.S.Source.rest c.loop-error.self) c.loop-error.invariant.under) c.in-Err.ensures.skipped

pub returns-in-Err-clause-memory : goal.returns-in-Err-clause-memory
returns-in-Err-clause-memory g c = memory_weaker c.in-Err.error (all_unended (here g.S.Source.rest c.args.self.now) (here g.S.Source.rest c.loop-error.self) c.loop-error.invariant.under) c.in-Err.ensures.memory

pub returns-in-Ok-None-clause-frame : goal.returns-in-Ok-None-clause-frame
returns-in-Ok-None-clause-frame g c = same_on c.loop-error.invariant.frame c.in-Ok-None.ensures.frame
