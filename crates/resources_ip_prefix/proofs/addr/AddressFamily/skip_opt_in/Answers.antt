use Rattle.resources_ip_prefix.proofs.of_bcder_octets.Wanting.{memory_through}
use Rattle.resources_ip_prefix.proofs.addr.AddressFamily.skip_opt_in.Goals as goal

pub returns-in_err-take_opt_from-clause-memory : goal.returns-in_err-take_opt_from-clause-memory
returns-in_err-take_opt_from-clause-memory g c = memory_through _ c.from_residual.result _ c.from_residual.ensures.0 c.from_residual.ensures.1 c.in_err-take_opt_from.ensures.memory
