use Rattle.std.proofs.Common.{refl}
use Rattle.certs_extension.proofs.of_bcder_content.InMode.{begin, next_default, stop_default, done}
use Rattle.certs_extension.proofs.of_bcder_content.Unique.{octets_tagged}
use Rattle.certs_extension.proofs.constraints.take_fields.Goals as goal

pub returns-in_err-take_opt_bool-clause-reads : goal.returns-in_err-take_opt_bool-clause-reads
returns-in_err-take_opt_bool-clause-reads g c = stop_default _ begin c.from_residual.ensures c.in_err-take_opt_bool.ensures.reads

pub returns-clause-reads : goal.returns-clause-reads
returns-clause-reads g c = done (next_default _ begin (λ m. octets_tagged _ _) c.in_ok-take_opt_bool.ensures.reads c.unwrap_or-ca.ensures) refl
