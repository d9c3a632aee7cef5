use Rattle.std.proofs.Common.{refl}
use Rattle.certs_cert.specs.certs_basics.Basics.{IsAlgorithm, IsSerial}
use Rattle.certs_cert.specs.certs_basics.Names.{SpellsName}
use Rattle.certs_cert.specs.certs_basics.Forms.{IsValidity}
use Rattle.certs_cert.specs.Reading.{IsNumbered}
use Rattle.certs_cert.proofs.Joined.{as_read, field, join, kept_as, read_as}
use Rattle.certs_cert.proofs.of_bcder_content.InMode.{begin, next, stop, stop_all, finish}
use Rattle.certs_cert.proofs.reading.take_fields.Goals as goal

pub returns-in_err-version-clause-reads : goal.returns-in_err-version-clause-reads
returns-in_err-version-clause-reads g c = stop _ begin c.from_residual.ensures c.in_err-version.ensures

pub returns-in_err-serial-clause-reads : goal.returns-in_err-serial-clause-reads
returns-in_err-serial-clause-reads g c = stop _ (next begin c.in_ok-version.ensures) c.from_residual-in_err-serial.ensures c.in_err-serial.ensures.reads

pub returns-in_err-signature-clause-reads : goal.returns-in_err-signature-clause-reads
returns-in_err-signature-clause-reads g c =
    let s = next (next begin c.in_ok-version.ensures) c.in_ok-serial.ensures.reads in
    stop _ s c.from_residual-in_err-signature.ensures c.in_err-signature.ensures.reads

pub returns-in_err-issuer-clause-reads : goal.returns-in_err-issuer-clause-reads
returns-in_err-issuer-clause-reads g c =
    let s = next (next (next begin c.in_ok-version.ensures) c.in_ok-serial.ensures.reads) c.in_ok-signature.ensures.reads in
    stop _ s c.from_residual-in_err-issuer.ensures c.in_err-issuer.ensures.reads

pub returns-in_err-validity-clause-reads : goal.returns-in_err-validity-clause-reads
returns-in_err-validity-clause-reads g c =
    let s = next (next (next begin c.in_ok-version.ensures) c.in_ok-serial.ensures.reads) c.in_ok-signature.ensures.reads in
    stop _ (next s c.in_ok-issuer.ensures.reads) c.from_residual-in_err-validity.ensures c.in_err-validity.ensures.reads

pub returns-in_err-tail-clause-reads : goal.returns-in_err-tail-clause-reads
returns-in_err-tail-clause-reads g c =
    let s = next (next (next begin c.in_ok-version.ensures) c.in_ok-serial.ensures.reads) c.in_ok-signature.ensures.reads in
    stop_all _ (next (next s c.in_ok-issuer.ensures.reads) c.in_ok-validity.ensures.reads) c.from_residual-in_err-tail.ensures c.in_err-tail.ensures.reads.reads

pub returns-clause-reads : goal.returns-clause-reads
returns-clause-reads g c =
    let s = next (next (next begin c.in_ok-version.ensures) c.in_ok-serial.ensures.reads) c.in_ok-signature.ensures.reads in
    finish (next (next s c.in_ok-issuer.ensures.reads) c.in_ok-validity.ensures.reads) c.in_ok-tail.ensures.reads.reads refl

pub returns-clause-octets : goal.returns-clause-octets
returns-clause-octets g c =
    as_read refl
    (join (field (λ m. IsNumbered) c.in_ok-version.ensures)
    (join (field (λ m. IsSerial) c.in_ok-serial.ensures.reads)
    (join (field (λ m. IsAlgorithm) c.in_ok-signature.ensures.reads)
    (join (kept_as {P = SpellsName} c.in_ok-issuer.ensures.octets c.in_ok-issuer.ensures.spells)
    (join (field (λ m. IsValidity) c.in_ok-validity.ensures.reads)
    (read_as c.in_ok-tail.ensures.octets))))))
