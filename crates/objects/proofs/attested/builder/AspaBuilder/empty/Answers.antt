use Rattle.objects.proofs.Alone.{no_providers}
use Rattle.objects.proofs.attested.builder.AspaBuilder.empty.Goals as goal

pub returns : goal.returns
returns c = no_providers c.args.customer_as.value c.new.result c.new.ensures
