use Rattle.std.proofs.Common.{◌≤◌, [], length}
use mathlib.Core.List.{reverse}
use Rattle.bcder_content.specs.bcder_tree.declared.mode.Mode.{Mode}
use Rattle.bcder_source.specs.Limits.{view}
use Rattle.bcder_source.specs.Views.{View}
use Rattle.bcder_content.specs.SkipLevels.{Wants, Reaches}
use Rattle.bcder_content.proofs.skip_value.leave_ended.Given as goal

abbrev pub invariant-loop-span : goal.invariant-loop-span
invariant-loop-span g l = record {
  reached : (m : Mode) (final : View) → Reaches (Wants m (reverse l.fn.spans.items) final (view g.S.Source.rest l.fn.source)) [] (Wants m (reverse l.spans.items) final (view g.S.Source.rest l.source));
  shorter : length (g.S.Source.rest l.source.source) ≤ length (g.S.Source.rest l.fn.source.source);
}

abbrev pub decreases-loop-span : goal.decreases-loop-span
decreases-loop-span g l = length l.spans.items
