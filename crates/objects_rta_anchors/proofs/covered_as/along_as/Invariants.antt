use Rattle.std.proofs.Common.{ℕ, length}
use Rattle.std.specs.Prelude.{◌↔◌}
use Rattle.objects_rta_valid.specs.certs_basics.Lists.{Each}
use Rattle.objects_rta_valid.specs.certs_extension.Kinds.{As}
use Rattle.objects_rta_valid.specs.resources_chain.Sets.{InRuns}
use Rattle.objects_rta_anchors.specs.Coverage.{KeepsAt}
use Rattle.objects_rta_anchors.proofs.covered_as.along_as.Given as goal

abbrev pub invariant-loop-place : goal.invariant-loop-place
invariant-loop-place l =
    (n : ℕ) → (Each (KeepsAt l.fn.certs As n) l.path × InRuns l.kept n) ↔ (Each (KeepsAt l.fn.certs As n) l.fn.path × InRuns l.fn.held n)

abbrev pub decreases-loop-place : goal.decreases-loop-place
decreases-loop-place l = length l.path
