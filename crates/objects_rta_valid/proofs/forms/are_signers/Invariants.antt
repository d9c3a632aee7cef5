use Rattle.std.proofs.Common.{length}
use Rattle.std.specs.Prelude.{◌↔◌}
use Rattle.certs_verify.specs.certs_basics.Lists.{Each}
use Rattle.std.proofs.Common.{ℕ}
use Rattle.certs_verify.specs.certs_key.Digesting.{digests_of}
use Rattle.objects_rta_valid.specs.Places.{Stands}
use Rattle.objects_rta_valid.specs.Certs.{HasSignerForm}
use Rattle.objects_rta_valid.proofs.forms.are_signers.Given as goal

abbrev pub invariant-loop-place : goal.invariant-loop-place
invariant-loop-place g l = Each (λ (place : ℕ). Stands l.fn.certs place (HasSignerForm (digests_of g.D.Digester.sha256_digest g.D.Digester.sha1_digest l.fn.digester) l.fn.strict)) l.rest ↔ Each (λ (place : ℕ). Stands l.fn.certs place (HasSignerForm (digests_of g.D.Digester.sha256_digest g.D.Digester.sha1_digest l.fn.digester) l.fn.strict)) l.fn.places

abbrev pub decreases-loop-place : goal.decreases-loop-place
decreases-loop-place g l = length l.rest
