use Rattle.bcder_octets.proofs.Wanting.{memory_through}
use Rattle.bcder.proofs.Texts.{is_text}
use Rattle.bcder.proofs.string.string.RestrictedString.from_content.Goals as goal

pub of_text-requires : goal.of_text-requires
of_text-requires g c = is_text c.in_ok-octets.ensures.reads

pub returns-in_err-octets-clause-memory : goal.returns-in_err-octets-clause-memory
returns-in_err-octets-clause-memory g c = memory_through _ c.from_residual.result _ c.from_residual.ensures.0 c.from_residual.ensures.1 c.in_err-octets.ensures.memory
