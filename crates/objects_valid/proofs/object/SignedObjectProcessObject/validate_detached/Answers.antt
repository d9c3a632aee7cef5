use Rattle.objects_valid.proofs.object.SignedObjectProcessObject.validate_detached.Goals as goal

pub returns-clause-validates : goal.returns-clause-validates
returns-clause-validates g c = (c.now-now.result, c.now-now.ensures, c.validate_detached_at.ensures.validates, c.validate_detached_at.ensures.memory)
