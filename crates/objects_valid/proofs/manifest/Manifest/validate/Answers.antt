use Rattle.objects_valid.proofs.manifest.Manifest.validate.Goals as goal

pub returns-clause-validates : goal.returns-clause-validates
returns-clause-validates g c = (c.now-now.result, c.now-now.ensures, c.validate_at.ensures.validates, c.validate_at.ensures.memory)
