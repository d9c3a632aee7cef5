use Rattle.std.proofs.Common.{true}
use Rattle.certs_verify.specs.certs_basics.Verdicts.{Verdicts}
use Rattle.objects_rta_valid.proofs.Passing.{claimed_told}
use Rattle.objects_rta_valid.proofs.certs.claims.Goals as goal

pub returns : goal.returns
returns c =
    let good : Verdicts = λ key has_null message signature. true in
    claimed_told good c.args.issuer.now c.args.cert.now c.verify_issuer_claim.result c.is_ok.result c.is_ok.ensures.value (c.verify_issuer_claim.ensures.answers good 0) c.verify_issuer_claim.ensures.no_memory
