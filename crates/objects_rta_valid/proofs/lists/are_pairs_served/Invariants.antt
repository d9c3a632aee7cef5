use Rattle.std.proofs.Common.{length}
use Rattle.std.specs.Prelude.{◌↔◌}
use Rattle.certs_verify.specs.certs_basics.Lists.{Each}
use Rattle.std.proofs.Common.{ℕ}
use Rattle.certs_verify.specs.certs_extension.Cert.{CertValue}
use Rattle.objects_rta_valid.specs.Places.{Stands}
use Rattle.objects_rta_valid.specs.Vouched.{Has, Serves}
use Rattle.objects_rta_valid.proofs.lists.are_pairs_served.Given as goal

abbrev pub invariant-loop-pair : goal.invariant-loop-pair
invariant-loop-pair l = Each (λ (q : ℕ × ℕ). Stands l.fn.certs q.0 (λ (x : CertValue). Stands l.fn.certs q.1 (λ (p : CertValue). Has (Serves p x) l.fn.lists))) l.rest ↔ Each (λ (q : ℕ × ℕ). Stands l.fn.certs q.0 (λ (x : CertValue). Stands l.fn.certs q.1 (λ (p : CertValue). Has (Serves p x) l.fn.lists))) l.fn.pairs

abbrev pub decreases-loop-pair : goal.decreases-loop-pair
decreases-loop-pair l = length l.rest
