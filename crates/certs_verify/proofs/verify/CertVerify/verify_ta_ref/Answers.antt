use Rattle.certs_verify.proofs.verify.CertVerify.verify_ta_ref.Goals as goal

pub returns-clause-answers : goal.returns-clause-answers
returns-clause-answers g c = (c.now-now.result, c.now-now.ensures, c.verify_anchor_ref.ensures.answers)
