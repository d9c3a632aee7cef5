use Rattle.objects.proofs.ManifestAgain.{manifest_again}
use Rattle.objects.proofs.issued.laws.signed_manifests_are_read_again.Goals as goal

pub returns : goal.returns
returns c = manifest_again c.built_kinds_are_read_again.ensures.manifests c.manifests_are_read_again.ensures
