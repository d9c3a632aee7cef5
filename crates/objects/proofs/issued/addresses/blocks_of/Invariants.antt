use Rattle.std.proofs.Common.{◌≡◌, ◌++◌}
use Rattle.objects.specs.Issued.{runs_of}
use Rattle.objects.proofs.issued.addresses.blocks_of.Given as goal

abbrev pub invariant-loop-address : goal.invariant-loop-address
invariant-loop-address l = runs_of l.addresses ≡ l.blocks ++ runs_of l.address-iterator
