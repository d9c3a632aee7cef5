use Rattle.certs_basics.proofs.time.text.Form.moment.Goals as goal

pub returns-in-Utc-clause-found : goal.returns-in-Utc-clause-found
returns-in-Utc-clause-found c = rw c.in-Utc.is c.from_utc_text.ensures.found

pub returns-in-Utc-clause-none : goal.returns-in-Utc-clause-none
returns-in-Utc-clause-none c = rw c.in-Utc.is c.from_utc_text.ensures.none

pub returns-in-Generalized-clause-found : goal.returns-in-Generalized-clause-found
returns-in-Generalized-clause-found c = rw c.in-Generalized.is c.from_generalized.ensures.found

pub returns-in-Generalized-clause-none : goal.returns-in-Generalized-clause-none
returns-in-Generalized-clause-none c = rw c.in-Generalized.is c.from_generalized.ensures.none
