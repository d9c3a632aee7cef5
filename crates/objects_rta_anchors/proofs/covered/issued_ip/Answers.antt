use Rattle.std.proofs.Common.{ℕ}
use Rattle.objects_rta_valid.specs.certs_verify.Holders.{ResourceCertValue}
use Rattle.objects_rta_valid.specs.certs_extension.Verified.{held_by}
use Rattle.objects_rta_anchors.specs.Beginnings.{kind_of}
use Rattle.objects_rta_anchors.proofs.Covering.{set_of, stands_set}
use Rattle.objects_rta_anchors.proofs.covered.issued_ip.Goals as goal

pub returns-in_ok-set-in-Some : goal.returns-in_ok-set-in-Some
returns-in_ok-set-in-Some c =
    stands_set (λ (n : ℕ) (r : ResourceCertValue). held_by r.holder (kind_of c.args.family) n) c.args.issuers.now c.args.number c.in-Some.issuer.now c.in_ok-set-in-Some.set c.in-Some.ensures
    (set_of (λ (n : ℕ). held_by c.in-Some.issuer.now.holder (kind_of c.args.family) n) c.held_ip.result.now c.in_ok-set-in-Some.set c.in_ok-set-in-Some.ensures.cases c.held_ip.ensures)
