use Rattle.objects_payload.proofs.Keys.{no_key}
use Rattle.objects_payload.proofs.locator.key.read_key.Goals as goal

pub returns-in-Err-Content : goal.returns-in-Err-Content
returns-in-Err-Content c =
    no_key _ _ c.in_ok-octets.octets.items c.in-Ok.octets c.args.text.now c.in-Err-Content.field-0-is (λ h. h) c.in-Err-Content.ensures.decodes c.in-Ok.ensures.ok c.in_ok-octets.ensures
