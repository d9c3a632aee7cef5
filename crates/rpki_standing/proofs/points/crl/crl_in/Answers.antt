use Rattle.rpki_standing.proofs.points.crl.crl_in.Goals as goal

pub returns-in-Err-Content : goal.returns-in-Err-Content
returns-in-Err-Content c = rw c.in-Err-Content.field-0-is at c.in-Err-Content.ensures
