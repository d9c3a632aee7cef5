use Rattle.certs_verify.proofs.verify.CertVerify.verify_router.Goals as goal

pub returns-clause-answers : goal.returns-clause-answers
returns-clause-answers g c = (c.now-now.result, c.now-now.ensures, c.verify_router.ensures.answers, c.verify_router.ensures.memory)
