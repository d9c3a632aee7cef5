use Rattle.objects_cms.proofs.of_bcder_content.Taking.{weaker}
use Rattle.objects_rta.proofs.ListTexts.{kept_octets, kept_values, no_values}
use Rattle.objects_rta.proofs.lists.take_octets.Goals as goal

pub returns-in-Ok-clause-reads : goal.returns-in-Ok-clause-reads
returns-in-Ok-clause-reads g c = record { reads = kept_values c.in-Ok.ensures.captured }

pub returns-in-Ok-clause-octets : goal.returns-in-Ok-clause-octets
returns-in-Ok-clause-octets g c = kept_octets c.in-Ok.ensures.captured

pub returns-in-Err-clause-reads : goal.returns-in-Err-clause-reads
returns-in-Err-clause-reads g c = record { reads = weaker _ no_values c.in-Err.ensures.refused }
