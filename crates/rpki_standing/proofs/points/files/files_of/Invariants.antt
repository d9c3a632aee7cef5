use Rattle.std.proofs.Common.{◌≡◌, ◌++◌, Some}
use Rattle.rpki_rules.specs.Points.{files_in}
use Rattle.rpki_standing.proofs.points.files.files_of.Given as goal

abbrev pub invariant-loop-file : goal.invariant-loop-file
invariant-loop-file l = l.keys.items ++ files_in (Some l.folder) l.left ≡ files_in (Some l.fn.folder) l.fn.manifest.files
