use Rattle.std.proofs.Common.{length}
use Rattle.objects_cms.specs.bcder_content.Here.{here}
use Rattle.objects_cms.proofs.of_bcder_content.Gathering.{Gathered}
use Rattle.objects_cms.specs.Files.{IsEntry, whatever}
use Rattle.objects_cms.proofs.manifest.list.skip_files.Given as goal

abbrev pub invariant-loop-entry : goal.invariant-loop-entry
invariant-loop-entry g l = Gathered (λ m. IsEntry) whatever (here g.S.Source.rest l.fn.cons) (here g.S.Source.rest l.cons) tt

abbrev pub decreases-loop-entry : goal.decreases-loop-entry
decreases-loop-entry g l = length (g.S.Source.rest l.cons.octets.source.source)
