use Rattle.objects_cms.proofs.Joined.{kept_if}
use Rattle.objects_cms.proofs.signed.signer.fn.take_attributes.take_constructed_if.Goals as goal

pub returns : goal.returns
returns g c = record { reads = c.take_from.ensures.reads; octets = kept_if _ _ c.take_from.result c.take_from.ensures.octets c.take_from.ensures.spelled }
