use Rattle.std.proofs.Common.{take}
use Rattle.std.specs.List.{AllZip}
use Rattle.objects_rta_valid.specs.Kept.{Kept, paths_of}
use Rattle.objects_rta_valid.specs.Nodes.{each_octets}
use Rattle.objects_rta_valid.specs.Paths.{IsOnlyPath}
use Rattle.objects_rta_valid.specs.Runs.{AreMeasured}
use Rattle.objects_rta_valid.proofs.paths.find.paths.Given as goal

abbrev pub invariant-loop-signer : goal.invariant-loop-signer
invariant-loop-signer l = record {
  measured : AreMeasured l.steps.items l.lengths.items;
  each : AllZip (IsOnlyPath l.nodes) (take l.signer-index (each_octets l.signers)) (paths_of l.steps.items l.starts.items);
  kept : Kept l.steps.items l.lengths.items (paths_of l.steps.items l.starts.items);
}
