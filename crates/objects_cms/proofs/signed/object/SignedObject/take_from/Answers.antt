use Rattle.objects_cms.proofs.Beginning.{never_wanted, wants_on}
use Rattle.objects_cms.proofs.Whole.{object_agreed, object_stop}
use Rattle.objects_cms.proofs.signed.object.SignedObject.take_from.Goals as goal

pub returns-in_err-parts-clause-reads : goal.returns-in_err-parts-clause-reads
returns-in_err-parts-clause-reads g c = object_stop _ _ _ _ c.from_residual.ensures c.in_err-parts.ensures.reads

pub returns-in_err-parts-clause-memory : goal.returns-in_err-parts-clause-memory
returns-in_err-parts-clause-memory g c = wants_on _ _ c.from_residual.ensures (λ b. b) c.in_err-parts.ensures.memory

pub returns-clause-reads : goal.returns-clause-reads
returns-clause-reads g c = object_agreed _ c.agreed.result c.in_ok-parts.ensures.octets c.agreed.ensures.gives c.agreed.ensures.same c.agreed.ensures.refused

pub returns-clause-memory : goal.returns-clause-memory
returns-clause-memory g c = never_wanted _ c.agreed.result c.agreed.ensures.no_memory
