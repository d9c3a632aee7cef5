use Rattle.objects_payload.specs.Addresses.{AreAddresses}
use Rattle.objects_payload.proofs.of_bcder_content.InMode.{inside}
use Rattle.objects_payload.proofs.roa.addresses.RoaIpAddresses.take_from.Goals as goal

pub returns-clause-reads : goal.returns-clause-reads
returns-clause-reads g c = inside {P = AreAddresses c.args.family} (record { each = λ p q r h. h }) c.take_sequence.ensures.ran
