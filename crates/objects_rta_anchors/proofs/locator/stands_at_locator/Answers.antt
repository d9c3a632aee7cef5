use Rattle.objects_rta_anchors.specs.Anchors.{IsAtLocator}
use Rattle.objects_rta_valid.proofs.Standing.{none_stands, not_told, stands_told}
use Rattle.objects_rta_anchors.proofs.locator.stands_at_locator.Goals as goal

pub returns-in-Some : goal.returns-in-Some
returns-in-Some c = stands_told (IsAtLocator c.args.tal.now.key) c.args.certs.now c.args.place c.in-Some.cert.now c.is_at_locator.result c.in-Some.ensures c.is_at_locator.ensures

pub returns-in-None : goal.returns-in-None
returns-in-None c = not_told (none_stands (IsAtLocator c.args.tal.now.key) c.args.certs.now c.args.place c.in-None.ensures)
