use Rattle.std.proofs.Common.{refl}
use Rattle.certs_cert.specs.bcder_tree.Tags.{context}
use Rattle.certs_cert.specs.bcder_content.Grammar.{Inside}
use Rattle.certs_cert.specs.certs_basics.Keys.{IsKey}
use Rattle.certs_cert.specs.certs_basics.Names.{SpellsName}
use Rattle.certs_cert.specs.Reading.{AreSlotted}
use Rattle.certs_cert.proofs.Joined.{as_read, ended, field, join, kept_as}
use Rattle.certs_cert.proofs.of_bcder_content.InMode.{begin, next, stop, done}
use Rattle.certs_cert.proofs.reading.take_tail.Goals as goal

pub returns-in_err-subject-clause-reads : goal.returns-in_err-subject-clause-reads
returns-in_err-subject-clause-reads g c = stop _ begin c.from_residual.ensures c.in_err-subject.ensures.reads

pub returns-in_err-key-clause-reads : goal.returns-in_err-key-clause-reads
returns-in_err-key-clause-reads g c = stop _ (next begin c.in_ok-subject.ensures.reads) c.from_residual-in_err-key.ensures c.in_err-key.ensures.reads

pub returns-in_err-slots-clause-reads : goal.returns-in_err-slots-clause-reads
returns-in_err-slots-clause-reads g c =
    stop _ (next (next begin c.in_ok-subject.ensures.reads) c.in_ok-key.ensures.reads) c.from_residual-in_err-slots.ensures c.in_err-slots.ensures

pub returns-clause-reads : goal.returns-clause-reads
returns-clause-reads g c = done (next (next (next begin c.in_ok-subject.ensures.reads) c.in_ok-key.ensures.reads) c.in_ok-slots.ensures) refl

pub returns-clause-octets : goal.returns-clause-octets
returns-clause-octets g c =
    let last = c.in_ok-slots.ensures in
    as_read refl
    (join (kept_as {P = SpellsName} c.in_ok-subject.ensures.octets c.in_ok-subject.ensures.spells)
    (join (field IsKey c.in_ok-key.ensures.reads)
    (join (field (λ m. Inside (context 3) (AreSlotted m)) last)
    (ended last.took.goes.behind))))
