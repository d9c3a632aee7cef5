use Rattle.certs_verify.proofs.validate.CertValidate.validate_ta.Goals as goal

pub returns-clause-validates : goal.returns-clause-validates
returns-clause-validates g c = (c.now-now.result, c.now-now.ensures, c.validate_ta_at.ensures.validates, c.validate_ta_at.ensures.memory)
