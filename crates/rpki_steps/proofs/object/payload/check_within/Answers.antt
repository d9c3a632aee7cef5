use Rattle.rpki_steps.specs.Holders.{cert_of, sets_of}
use Rattle.rpki_rules.specs.Kinds.{InSet}
use Rattle.rpki_standing.specs.Views.{payload_of}
use Rattle.rpki_steps.proofs.PayloadFiles.{claim_fails, claim_unheld, cover_told, cover_unheld}
use Rattle.rpki_steps.proofs.object.payload.check_within.Goals as goal

pub returns-in-Ok-clause-told : goal.returns-in-Ok-clause-told
returns-in-Ok-clause-told c = λ w p.
    let h = rw c.in-Ok.is at c.in_ok-held.ensures in
    cover_told w (sets_of c.args.ca.now) (cert_of c.args.ca.now) p c.args.object.now.object c.args.object.now.payload c.cert.result.now (payload_of c.payload.result.now) c.check_cover-told.result c.cert.ensures c.payload.ensures h.0
    (c.check_cover-told.ensures.told w (sets_of c.args.ca.now) (cert_of c.args.ca.now) p c.args.object.now.object (rw c.cert.ensures at h.1))

pub returns-in-Ok-clause-unheld : goal.returns-in-Ok-clause-unheld
returns-in-Ok-clause-unheld c = cover_unheld (sets_of c.args.ca.now) c.args.object.now.object c.args.object.now.payload c.check_cover-told.result c.check_cover-told.ensures.unheld

pub returns-in-Err-clause-told : goal.returns-in-Err-clause-told
returns-in-Err-clause-told c = λ w p.
    claim_fails w (sets_of c.args.ca.now) (cert_of c.args.ca.now) p c.args.object.now.object c.args.object.now.payload c.cert.result.now c.in-Err.claimed c.cert.ensures (rw c.in-Err.is at c.in_ok-held.ensures)

pub returns-in-Err-clause-unheld : goal.returns-in-Err-clause-unheld
returns-in-Err-clause-unheld c = λ w uri h.
    claim_unheld w (InSet (sets_of c.args.ca.now)) uri c.args.object.now.object c.args.object.now.payload c.cert.result.now c.in-Err.claimed c.cert.ensures h (rw c.in-Err.is at c.in_ok-held.ensures)
