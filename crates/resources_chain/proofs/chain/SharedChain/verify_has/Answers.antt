use Rattle.resources_chain.proofs.ClaimLemmas.{unfit_of}
use Rattle.resources_chain.proofs.chain.SharedChain.verify_has.Goals as goal

pub returns-clause-refused : goal.returns-clause-refused
returns-clause-refused g c =
    unfit_of c.as_chain-listed.ensures.runs c.as_chain-held.ensures.runs c.if-is_encompassed.ensures c.in_ok-outside.ensures c.in_ok-from_owned.ensures.set
