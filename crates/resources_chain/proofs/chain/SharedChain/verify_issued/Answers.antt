use Rattle.resources_chain.proofs.ClaimLemmas.{inherited_is, listed_is}
use Rattle.resources_chain.proofs.chain.SharedChain.verify_issued.Goals as goal

pub returns-in_ok-clone-in-Inherit-clause-held : goal.returns-in_ok-clone-in-Inherit-clause-held
returns-in_ok-clone-in-Inherit-clause-held g c =
    inherited_is c.args.self.now c.in-Inherit.ensures c.in_ok-clone-in-Inherit.ensures.cases c.in_ok-clone-in-Inherit.ensures.maximal

pub returns-in_ok-clone-in-Refuse-clause-held : goal.returns-in_ok-clone-in-Refuse-clause-held
returns-in_ok-clone-in-Refuse-clause-held g c =
    listed_is c.args.self.now c.in-Blocks.ensures c.in_ok-clone-in-Refuse.ensures.cases c.in_ok-clone-in-Refuse.ensures.maximal c.in_ok-verify_has-in-Refuse.ensures.fits
