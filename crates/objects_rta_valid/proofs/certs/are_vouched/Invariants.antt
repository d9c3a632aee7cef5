use Rattle.std.proofs.Common.{◌≡◌, ◌+◌, ◌≤◌, length}
use Rattle.std.specs.Prelude.{◌↔◌}
use Rattle.std.specs.List.{AllZip}
use Rattle.objects_rta_valid.specs.Vouched.{IsVouched}
use Rattle.objects_rta_valid.proofs.certs.are_vouched.Given as goal

abbrev pub invariant-loop-cert : goal.invariant-loop-cert
invariant-loop-cert g l = record {
  vouched : AllZip (IsVouched (g.V.Verifier.says l.fn.verifier) l.fn.now l.fn.certs) l.rest l.ahead ↔ AllZip (IsVouched (g.V.Verifier.says l.fn.verifier) l.fn.now l.fn.certs) l.fn.certs l.fn.links;
  same : g.V.Verifier.says l.verifier ≡ g.V.Verifier.says l.fn.verifier;
  asked : g.V.Verifier.count l.verifier + length l.rest ≤ g.V.Verifier.count l.fn.verifier + length l.fn.certs;
}

abbrev pub decreases-loop-cert : goal.decreases-loop-cert
decreases-loop-cert g l = length l.rest
