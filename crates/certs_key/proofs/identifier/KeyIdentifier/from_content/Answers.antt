use Rattle.std.proofs.Common.{sym, ◌∙◌, subst}
use Rattle.certs_key.specs.certs_basics.Basics.{IsTwentyLong}
use Rattle.certs_key.proofs.of_bcder_octets.Wanting.{memory_through}
use Rattle.certs_key.proofs.Identifying.{identifier_given, identifier_stopped, identifier_refused}
use Rattle.certs_key.proofs.identifier.KeyIdentifier.from_content.Goals as goal

pub returns-in_err-octets-clause-reads : goal.returns-in_err-octets-clause-reads
returns-in_err-octets-clause-reads g c = identifier_stopped _ c.from_residual.ensures c.in_err-octets.ensures.reads

pub returns-in_err-octets-clause-memory : goal.returns-in_err-octets-clause-memory
returns-in_err-octets-clause-memory g c = memory_through _ c.from_residual.result _ c.from_residual.ensures.0 c.from_residual.ensures.1 c.in_err-octets.ensures.memory

pub returns-in-Some-clause-reads : goal.returns-in-Some-clause-reads
returns-in-Some-clause-reads g c = identifier_given c.in_ok-octets.ensures.reads (subst IsTwentyLong c.octets_of.ensures c.in-Some.ensures.0) (c.in-Some.ensures.1 ∙ c.octets_of.ensures)

pub returns-clause-reads : goal.returns-clause-reads
returns-clause-reads g c = identifier_refused _ (λ l. c.in-None.ensures (subst IsTwentyLong (sym c.octets_of.ensures) l)) c.no_identifier.ensures.same c.in_ok-octets.ensures.reads
