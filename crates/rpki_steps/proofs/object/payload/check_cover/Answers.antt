-- What a payload's own test tells.
use Rattle.rpki_steps.proofs.object.payload.check_cover.Goals as goal

pub returns-in-Roa-clause-told : goal.returns-in-Roa-clause-told
returns-in-Roa-clause-told c = λ w above ca p o kept. rw c.in-Roa.is (c.check_roa.ensures.told w above ca p o kept)

pub returns-in-Aspa-clause-told : goal.returns-in-Aspa-clause-told
returns-in-Aspa-clause-told c = λ w above ca p o kept. rw c.in-Aspa.is (c.check_aspa.ensures.told w above ca p o kept)
