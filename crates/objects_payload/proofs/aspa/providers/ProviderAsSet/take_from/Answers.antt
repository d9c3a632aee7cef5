use Rattle.objects_payload.proofs.of_bcder_content.InMode.{inside}
use Rattle.objects_payload.specs.Fields.{AreAllProviders}
use Rattle.objects_payload.proofs.aspa.providers.ProviderAsSet.take_from.Goals as goal

pub returns-clause-reads : goal.returns-clause-reads
returns-clause-reads g c = inside {P = AreAllProviders c.args.customer.value} (record { each = λ p q r h. h }) c.take_sequence.ensures.ran
