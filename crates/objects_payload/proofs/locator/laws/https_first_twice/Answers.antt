use Rattle.objects_payload.specs.Locators.{is_https}
use Rattle.objects_payload.proofs.Parting.{parted_twice}
use Rattle.objects_payload.proofs.locator.laws.https_first_twice.Goals as goal

pub returns : goal.returns
returns c = parted_twice is_https
