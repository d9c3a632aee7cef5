use Rattle.std.proofs.Common.{sym, subst, refl}
use Rattle.bcder.specs.Texts.{IsText}
use Rattle.bcder_octets.proofs.Wanting.{memory_through}
use Rattle.bcder.proofs.Texts.{text_given, text_refused, text_stopped}
use Rattle.bcder.proofs.string.reading.gather_text.Goals as goal

pub returns-in_err-octets-clause-reads : goal.returns-in_err-octets-clause-reads
returns-in_err-octets-clause-reads g c = text_stopped _ c.from_residual.ensures c.in_err-octets.ensures.reads

pub returns-in_err-octets-clause-memory : goal.returns-in_err-octets-clause-memory
returns-in_err-octets-clause-memory g c = memory_through _ c.from_residual.result _ c.from_residual.ensures.0 c.from_residual.ensures.1 c.in_err-octets.ensures.memory

pub returns-in-Ok-clause-reads : goal.returns-in-Ok-clause-reads
returns-in-Ok-clause-reads g c = text_given c.in_ok-octets.ensures.reads (subst (IsText g.L.CharSet.has g.L.CharSet.spell) c.octets_of.ensures c.in-Ok.ensures.text)

pub returns-in-Err-clause-reads : goal.returns-in-Err-clause-reads
returns-in-Err-clause-reads g c = text_refused _ (λ t. c.in-Err.ensures.refused (subst (IsText g.L.CharSet.has g.L.CharSet.spell) (sym c.octets_of.ensures) t)) (record { reference = refl }) c.in_ok-octets.ensures.reads
