use Rattle.objects_valid.specs.certs_extension.Verified.{held_by}
use Rattle.objects_valid.proofs.Accepting.{outside_below, refused_below}
use Rattle.objects_valid.proofs.inspected.verify_below.Goals as goal

pub returns-in-Err-clause-verifies : goal.returns-in-Err-clause-verifies
returns-in-Err-clause-verifies g c =
    refused_below (g.V.Verifier.says c.args.verifier.now) c.args.now c.args.issuer.now.holder c.args.cert c.in-Err.refused _ c.error_of.ensures c.in-Err.ensures.verifies c.in-Err.ensures.memory

pub returns-in-Err-clause-outside : goal.returns-in-Err-clause-outside
returns-in-Err-clause-outside g c =
    outside_below c.args.cert (held_by c.args.issuer.now.holder) c.in-Err.refused _ c.error_of.ensures c.in-Err.ensures.outside
