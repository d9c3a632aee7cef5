use Rattle.std.proofs.Common.{List, ℕ, subst}
use Rattle.objects_payload.specs.Faults.{IsFault}
use Rattle.rpki_standing.proofs.Following.{text_told, text_refused}
use Rattle.rpki_standing.proofs.anchors.texts.read_locator_text.Goals as goal

pub returns-in-Memory-clause-asked : goal.returns-in-Memory-clause-asked
returns-in-Memory-clause-asked c =
    text_told c.in-Err.error c.as_slice.result.now c.args.locator.now.text c.as_slice.ensures c.in-Memory.is c.in-Err.ensures.reads

pub returns-in_default-clause-text : goal.returns-in_default-clause-text
returns-in_default-clause-text c =
    (c.in_default.not-Memory, subst (λ (t : List ℕ). IsFault c.in-Err.error t) c.as_slice.ensures c.in-Err.ensures.reads)

pub returns-in_default-clause-none : goal.returns-in_default-clause-none
returns-in_default-clause-none c =
    text_refused c.in-Err.error c.as_slice.result.now c.args.locator.now.text c.as_slice.ensures c.in_default.not-Memory c.in-Err.ensures.refused
