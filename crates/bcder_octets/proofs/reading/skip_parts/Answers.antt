use Rattle.bcder_octets.specs.bcder_content.Here.{here}
use Rattle.bcder_octets.proofs.of_bcder_content.Taking.{weaker}
use Rattle.bcder_octets.proofs.of_bcder_content.Took.{took_shorter}
use Rattle.bcder_octets.proofs.Gathering.{parts_first, parts_next, parts_over, parts_refused}
use Rattle.bcder_octets.proofs.reading.skip_parts.Goals as goal

pub loop-error-init : goal.loop-error-init
loop-error-init g c = record { under = parts_first c.args.nested (here g.S.Source.rest c.args.cons.now) }

pub loop-error-smaller : goal.loop-error-smaller
loop-error-smaller g c =
    let s = rw c.in-Ok-Some.field-0-is at c.in-Ok-Some.ensures in
    took_shorter (here g.S.Source.rest c.loop-error.cons) (here g.S.Source.rest c.skip_part.new.cons) s.tree s.took

pub loop-error-preserved : goal.loop-error-preserved
loop-error-preserved g c =
    let s = rw c.in-Ok-Some.field-0-is at c.in-Ok-Some.ensures in
    record { under = parts_next c.loop-error.invariant.under s }

pub returns-in-Ok-None : goal.returns-in-Ok-None
returns-in-Ok-None g c =
    let s = rw c.in-Ok-None.field-0-is at c.in-Ok-None.ensures in
    parts_over c.loop-error.invariant.under s

pub returns-in-Err : goal.returns-in-Err
returns-in-Err g c = weaker c.in-Err.error (λ l. parts_refused c.loop-error.invariant.under l) c.in-Err.ensures
