use Rattle.std.proofs.Common.{ℕ, length, arith}
use Rattle.objects_rta_anchors.specs.Beginnings.{kind_of}
use Rattle.objects_rta_anchors.specs.Lent.{SignerCovers}
use Rattle.objects_rta_anchors.proofs.Covering.{covers_inside, gathered_all, gathered_more, gathered_none}
use Rattle.objects_rta_anchors.proofs.covered.gather_ip.Goals as goal

pub loop-signer-init : goal.loop-signer-init
loop-signer-init c = gathered_none (λ (signer n : ℕ). SignerCovers c.args.anchored.now (kind_of c.args.family) n signer) c.new-all.result c.new-all.ensures

pub loop-signer-preserved : goal.loop-signer-preserved
loop-signer-preserved c =
    gathered_more (λ (signer n : ℕ). SignerCovers c.args.anchored.now (kind_of c.args.family) n signer) c.loop-signer.signer c.loop-signer.all c.in_ok-covered.covered _
    c.in_ok-add_ip.ensures c.in_ok-covered.ensures c.loop-signer.invariant

pub returns : goal.returns
returns c =
    let a = c.args.anchored.now in
    gathered_all (λ (signer n : ℕ). SignerCovers a (kind_of c.args.family) n signer) c.loop-signer.signer (length a.paths.now.paths) c.loop-signer.all c.in_ok-set.set c.in_ok-set.ensures
    (λ signer n. covers_inside a.certs.now a.issuers.now (kind_of c.args.family) a.paths.now.paths a.anchors.now signer n) (omega (arith, c.len-signer-end.ensures, c.loop-signer-test.false)) c.loop-signer.invariant
