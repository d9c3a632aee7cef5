use Rattle.objects_payload.specs.Addresses.{AreAddress}
use Rattle.objects_payload.proofs.of_bcder_content.InMode.{inside_opt}
use Rattle.objects_payload.proofs.AddressLemmas.{opt_address}
use Rattle.objects_payload.proofs.roa.address.RoaIpAddress.take_opt_from.Goals as goal

pub returns-clause-reads : goal.returns-clause-reads
returns-clause-reads g c = opt_address c.args.family _ _ _ _ (inside_opt {P = AreAddress c.args.family} (record { each = λ p q r h. h }) c.take_opt_sequence.ensures.ran)
