use Rattle.std.proofs.Common.{sym}
use Rattle.certs_x509.proofs.of_bcder_content.Forests.{there, absent}
use Rattle.certs_x509.proofs.Searches.{no_refusal, passed_all, passed_found, passed_more}
use Rattle.certs_x509.proofs.revoked.search.find_serial.Goals as goal

pub returns-in_err-entry-clause-ok : goal.returns-in_err-entry-clause-ok
returns-in_err-entry-clause-ok c = λ xs l.
    let b = c.loop-entry.invariant.behind xs l in
    absurd (no_refusal _ b.1 c.in_err-entry.ensures.reads c.in_err-entry.ensures.no_memory)

pub returns-in_err-entry-clause-sound : goal.returns-in_err-entry-clause-sound
returns-in_err-entry-clause-sound c = λ xs l.
    let b = c.loop-entry.invariant.behind xs l in
    absurd (no_refusal _ b.1 c.in_err-entry.ensures.reads c.in_err-entry.ensures.no_memory)

pub returns-then-eq-clause-found : goal.returns-then-eq-clause-found
returns-then-eq-clause-found c = λ xs l.
    sym (passed_found c.loop-entry.invariant (there _ _ _ c.in-Some.is c.in_ok-entry.ensures.reads) (cc (c.if-eq.true, c.eq.ensures, c.user_certificate.ensures)) xs l)

pub loop-entry-preserved : goal.loop-entry-preserved
loop-entry-preserved c =
    passed_more c.loop-entry.invariant (there _ _ _ c.in-Some.is c.in_ok-entry.ensures.reads) (cc (c.if-eq.false, c.eq.ensures, c.user_certificate.ensures))

pub returns-clause-found : goal.returns-clause-found
returns-clause-found c = λ xs l. sym (passed_all c.loop-entry.invariant (absent _ _ _ c.in_default.is c.in_ok-entry.ensures.reads) xs l)
