use Rattle.rpki_steps.specs.Holders.{sets_of}
use Rattle.rpki_steps.proofs.ClaimLemmas.{sets_told}
use Rattle.rpki_steps.proofs.cert.claims.sets_below.Goals as goal

pub returns : goal.returns
returns c = sets_told c.args.cert.now (sets_of c.args.ca.now) c.claim_of.result c.holding_of.result c.claim_of.ensures c.holding_of.ensures c.held_below.result c.held_below.ensures
