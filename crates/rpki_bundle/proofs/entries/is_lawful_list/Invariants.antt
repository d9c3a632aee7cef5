use Rattle.std.proofs.Common.{ℕ, ◌<◌, get_or}
use Rattle.rpki_bundle.proofs.entries.is_lawful_list.Given as goal

abbrev pub invariant-loop-entry : goal.invariant-loop-entry
invariant-loop-entry g l = (k : ℕ) → k < l.entry-index → (d : g.row.E.Denot) → g.E.Entry.lawful (get_or l.entries k d)
