use Rattle.certs_verify.proofs.verify.CertVerify.verify_ta.Goals as goal

pub returns-clause-verifies : goal.returns-clause-verifies
returns-clause-verifies g c = (c.now-now.result, c.now-now.ensures, c.verify_anchor.ensures.verifies, c.verify_anchor.ensures.memory)
