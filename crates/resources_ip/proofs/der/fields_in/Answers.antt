use Rattle.std.proofs.Common.{refl}
use Rattle.resources_ip.proofs.Mentioned.{fields_first_stop, fields_stop, fields_given}
use Rattle.resources_ip.proofs.der.fields_in.Goals as goal

pub returns-in_err-family : goal.returns-in_err-family
returns-in_err-family g c = fields_first_stop _ _ _ _ _ _ c.from_residual.ensures c.in_err-family.ensures.reads

pub returns-in_err-resources : goal.returns-in_err-resources
returns-in_err-resources g c = fields_stop _ _ c.in_ok-family.family _ _ _ c.in_ok-family.ensures.reads refl c.from_residual-in_err-resources.ensures c.in_err-resources.ensures.reads

pub returns : goal.returns
returns g c = fields_given _ c.in_ok-family.family c.in_ok-family.ensures.reads refl c.in_ok-resources.ensures.reads
