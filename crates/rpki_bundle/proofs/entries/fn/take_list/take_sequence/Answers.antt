use Rattle.std.proofs.Common.{◌∙◌}
use Rattle.rpki_bundle.proofs.of_bcder_content.Forests.{list_next, list_end, list_stop, there, absent}
use Rattle.rpki_bundle.proofs.of_bcder_content.Taking.{weaker}
use Rattle.rpki_bundle.proofs.of_bcder_content.Modes.{mode_behind, gives_in, lacks_tagged_in}
use Rattle.rpki_bundle.proofs.entries.fn.take_list.take_sequence.Goals as goal

pub returns-in_err-entry : goal.returns-in_err-entry
returns-in_err-entry g c = list_stop _ _ _ _ _ c.loop-entries.invariant.1 c.from_residual.ensures (weaker _ (lacks_tagged_in g.E.Entry.form c.loop-entries.invariant.0) c.in_err-entry.ensures.reads)

pub loop-entries-preserved : goal.loop-entries-preserved
loop-entries-preserved g c =
    let entry = there _ _ _ c.in-Some.is c.in_ok-entry.ensures.reads in
    (mode_behind entry ∙ c.loop-entries.invariant.0, list_next c.loop-entries.invariant.1 (gives_in g.E.Entry.form c.loop-entries.invariant.0 entry) c.in_ok-push.ensures.items)

pub returns : goal.returns
returns g c = list_end c.loop-entries.invariant.1 (g.met.E.Entry.is_sequence _) (absent _ _ _ c.in_default.is c.in_ok-entry.ensures.reads)
