use Rattle.rpki_steps.specs.Holders.{sets_of}
use Rattle.rpki_steps.proofs.ClaimLemmas.{fits_told, fits_wanted}
use Rattle.rpki_steps.proofs.cert.claims.fits_below.Goals as goal

pub returns-clause-told : goal.returns-clause-told
returns-clause-told c = fits_told c.args.cert.now (sets_of c.args.ca.now) c.claim_of.result c.holding_of.result c.claim_of.ensures c.holding_of.ensures c.claim_fits.result c.claim_fits.ensures.told

pub returns-clause-memory : goal.returns-clause-memory
returns-clause-memory c = fits_wanted c.args.cert.now (sets_of c.args.ca.now) c.claim_of.result c.holding_of.result c.claim_of.ensures c.holding_of.ensures c.claim_fits.result c.claim_fits.ensures.memory
