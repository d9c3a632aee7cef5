use Rattle.objects_rta_valid.proofs.Passing.{good_told}
use Rattle.objects_rta_valid.proofs.certs.has_signature.Goals as goal

pub returns-clause-good : goal.returns-clause-good
returns-clause-good g c =
    good_told (g.V.Verifier.says c.args.verifier.now) c.args.issuer.now c.args.cert.now c.verify_signature.result c.is_ok.result c.is_ok.ensures.value
    (c.verify_signature.ensures.answers 0) c.verify_signature.ensures.no_memory
