use Rattle.objects_payload.proofs.Locators.{one_locator}
use Rattle.objects_payload.proofs.locator.laws.one_locator.Goals as goal

pub returns-clause-uris : goal.returns-clause-uris
returns-clause-uris c = λ text us vs k l p q. (one_locator text us vs k l p q).0

pub returns-clause-key : goal.returns-clause-key
returns-clause-key c = λ text us vs k l p q. (one_locator text us vs k l p q).1
