use Rattle.certs_verify.proofs.verify.CertVerify.verify_ca.Goals as goal

pub returns-clause-verifies : goal.returns-clause-verifies
returns-clause-verifies g c = (c.now-now.result, c.now-now.ensures, c.verify_issued.ensures.verifies, c.verify_issued.ensures.memory)
