use Rattle.rpki_standing.specs.Readers.{world_by}
use Rattle.rpki_walk.specs.Asked.{HasLocatorReason}
use Rattle.rpki_steps.proofs.AnchorLemmas.{placed}
use Rattle.rpki_steps.proofs.repository.diagnosing.BundleRepositoryDiagnosing.locator_reason.Goals as goal

pub returns-clause-reason : goal.returns-clause-reason
returns-clause-reason g c =
    let w = world_by g.D.Digester.sha256_digest g.D.Digester.sha1_digest g.V.Verifier.says c.args.self.now.reader in
    placed (HasLocatorReason w) _ _ c.args.at _ _ c.locators.ensures.locators c.requires c.index-locators-at.is c.locator_reason.ensures.reason
