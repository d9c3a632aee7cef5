use Rattle.certs_verify.proofs.validate.CertValidate.validate_router.Goals as goal

pub returns-clause-validates : goal.returns-clause-validates
returns-clause-validates g c = (c.now-now.result, c.now-now.ensures, c.validate_router_at.ensures.validates, c.validate_router_at.ensures.memory)
