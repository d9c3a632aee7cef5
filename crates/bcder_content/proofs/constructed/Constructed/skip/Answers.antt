use Rattle.bcder_content.specs.Here.{here}
use Rattle.bcder_content.proofs.SkipSteps.{error_is}
use Rattle.bcder_content.proofs.SkipContents.{ended_stops}
use Rattle.bcder_content.proofs.constructed.Constructed.skip.Goals as goal

pub returns-in-Ok-None-clause-refused : goal.returns-in-Ok-None-clause-refused
returns-in-Ok-None-clause-refused g c =
    let s = rw c.in-Ok-None.field-0-is at c.in-Ok-None.ensures.skipped in
    error_is c.refuse.result _ c.refuse.ensures.error.0 _ c.refuse.ensures.error.1 (ended_stops (goal.F-step g) c.args.op (here g.S.Source.rest c.args.self.now) _ s.1)
