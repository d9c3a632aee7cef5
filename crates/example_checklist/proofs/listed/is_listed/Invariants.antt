use Rattle.std.proofs.Common.{◌↔◌}
use Rattle.example_checklist.specs.Listed.{Lists}
use Rattle.example_checklist.proofs.listed.is_listed.Given as goal

abbrev pub invariant-loop-file : goal.invariant-loop-file
invariant-loop-file l = Lists l.checklist.files l.name l.digest ↔ Lists l.file-iterator l.name l.digest
