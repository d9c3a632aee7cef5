use Rattle.rpki_steps.specs.Holders.{cert_of, sets_of}
use Rattle.rpki_walk.specs.Repository.{IsAnchorLookup}
use Rattle.rpki_steps.proofs.AnchorLemmas.{placed}
use Rattle.rpki_steps.proofs.repository.BundleRepositoryRepository.read_locator.Goals as goal

pub returns-clause-led : goal.returns-clause-led
returns-clause-led g c =
    placed (IsAnchorLookup cert_of sets_of _) _ _ c.args.at _ _ c.locators.ensures.locators c.requires c.index-locators-at.is c.read_locator.ensures.led
