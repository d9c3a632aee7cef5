use Rattle.resources_ip_prefix.proofs.of_bcder_octets.Wanting.{memory_through}
use Rattle.resources_ip_prefix.proofs.Values.{family_stop, family_given, family_unfit, family_neither}
use Rattle.resources_ip_prefix.proofs.der.family_in.Goals as goal

pub returns-in_err-octets-clause-reads : goal.returns-in_err-octets-clause-reads
returns-in_err-octets-clause-reads g c = family_stop _ _ c.from_residual.ensures c.in_err-octets.ensures.reads

pub returns-in_err-octets-clause-memory : goal.returns-in_err-octets-clause-memory
returns-in_err-octets-clause-memory g c = memory_through _ c.from_residual.result _ c.from_residual.ensures.0 c.from_residual.ensures.1 c.in_err-octets.ensures.memory

pub returns-then-is_slice-clause-reads : goal.returns-then-is_slice-clause-reads
returns-then-is_slice-clause-reads g c = family_given c.in_ok-octets.ensures.reads (c.is_slice.ensures.0 c.if-is_slice.true)

pub returns-then-is_slice-2-clause-reads : goal.returns-then-is_slice-2-clause-reads
returns-then-is_slice-2-clause-reads g c = family_given c.in_ok-octets.ensures.reads (c.is_slice-2.ensures.0 c.if-is_slice-2.true)

pub returns-clause-reads : goal.returns-clause-reads
returns-clause-reads g c = family_unfit _ c.in_ok-octets.ensures.reads (family_neither c.is_slice.ensures c.if-is_slice.false c.is_slice-2.ensures c.if-is_slice-2.false)
