use Rattle.certs_verify.proofs.validate.CertValidate.validate_ca.Goals as goal

pub returns-clause-validates : goal.returns-clause-validates
returns-clause-validates g c = (c.now-now.result, c.now-now.ensures, c.validate_ca_at.ensures.validates, c.validate_ca_at.ensures.memory)
