use Rattle.std.proofs.Common.{length}
use Rattle.std.specs.Prelude.{◌↔◌}
use Rattle.certs_verify.specs.certs_basics.Lists.{Each}
use Rattle.objects_rta_valid.specs.Certs.{IsCurrent}
use Rattle.objects_rta_valid.proofs.forms.are_current.Given as goal

abbrev pub invariant-loop-cert : goal.invariant-loop-cert
invariant-loop-cert l = Each (IsCurrent l.fn.now) l.rest ↔ Each (IsCurrent l.fn.now) l.fn.certs

abbrev pub decreases-loop-cert : goal.decreases-loop-cert
decreases-loop-cert l = length l.rest
