use Rattle.certs_basics.proofs.Centuries.{short_found, short_none}
use Rattle.certs_basics.proofs.time.time.Time.from_utc_text.Goals as goal

pub returns-clause-found : goal.returns-clause-found
returns-clause-found c = short_found _ _ c.from_generalized.result c.in_ok-whole.ensures.some c.from_generalized.ensures.found

pub returns-clause-none : goal.returns-clause-none
returns-clause-none c = short_none _ _ c.from_generalized.result c.in_ok-whole.ensures.some c.from_generalized.ensures.none
