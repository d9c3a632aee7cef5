use Rattle.objects_cms.proofs.Finished.{finished_gives, finished_stop, not_finished}
use Rattle.objects_cms.proofs.attributes.attrs.take_attributes.Goals as goal

pub returns-in_err-slots : goal.returns-in_err-slots
returns-in_err-slots g c = finished_stop _ c.from_residual.ensures c.in_err-slots.ensures.reads.reads

pub returns-in-Some : goal.returns-in-Some
returns-in-Some g c = finished_gives c.in-Some.ensures.some c.in_ok-slots.ensures.reads.reads

pub returns-in-None : goal.returns-in-None
returns-in-None g c = not_finished c.in-None.ensures.none c.in_ok-slots.ensures.reads.reads
