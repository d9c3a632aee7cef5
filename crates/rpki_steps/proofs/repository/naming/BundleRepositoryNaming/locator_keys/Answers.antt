use Rattle.rpki_walk.specs.Naming.{AreLocatorKeys}
use Rattle.rpki_steps.proofs.AnchorLemmas.{placed}
use Rattle.rpki_steps.proofs.repository.naming.BundleRepositoryNaming.locator_keys.Goals as goal

pub returns : goal.returns
returns g c = placed AreLocatorKeys _ _ c.args.at _ _ c.locators.ensures.locators c.requires c.index-locators-at.is c.locator_keys.ensures
