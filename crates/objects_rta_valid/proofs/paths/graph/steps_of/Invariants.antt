use Rattle.std.proofs.Common.{◌≡◌, ◌<◌, ℕ, length}
use Rattle.objects_rta_valid.specs.Nodes.{Node}
use Rattle.objects_rta_valid.specs.Paths.{At}
use Rattle.objects_rta_valid.specs.Runs.{on_at}
use Rattle.objects_rta_valid.specs.Tables.{Goes, Picks}
use Rattle.objects_rta_valid.proofs.paths.graph.steps_of.Given as goal

abbrev pub invariant-loop-node : goal.invariant-loop-node
invariant-loop-node l = record {
  size : length l.steps.items ≡ l.node-index;
  each : (place : ℕ) (c : Node) → place < l.node-index → At l.nodes place c → Picks (Goes l.nodes c) (on_at l.steps.items place);
}
