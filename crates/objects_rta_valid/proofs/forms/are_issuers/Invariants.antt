use Rattle.std.proofs.Common.{length}
use Rattle.std.specs.Prelude.{◌↔◌}
use Rattle.certs_verify.specs.certs_basics.Lists.{Each}
use Rattle.std.proofs.Common.{ℕ}
use Rattle.certs_verify.specs.certs_key.Digesting.{digests_of}
use Rattle.objects_rta_valid.specs.Places.{Stands}
use Rattle.objects_rta_valid.specs.Certs.{HasIssuerForm}
use Rattle.objects_rta_valid.proofs.forms.are_issuers.Given as goal

abbrev pub invariant-loop-pair : goal.invariant-loop-pair
invariant-loop-pair g l = Each (λ (q : ℕ × ℕ). Stands l.fn.certs q.1 (HasIssuerForm (digests_of g.D.Digester.sha256_digest g.D.Digester.sha1_digest l.fn.digester) l.fn.strict)) l.rest ↔ Each (λ (q : ℕ × ℕ). Stands l.fn.certs q.1 (HasIssuerForm (digests_of g.D.Digester.sha256_digest g.D.Digester.sha1_digest l.fn.digester) l.fn.strict)) l.fn.pairs

abbrev pub decreases-loop-pair : goal.decreases-loop-pair
decreases-loop-pair g l = length l.rest
