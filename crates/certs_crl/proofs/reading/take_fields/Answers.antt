use Rattle.std.proofs.Common.{refl}
use Rattle.certs_crl.specs.bcder_content.Grammar.{Then}
use Rattle.certs_crl.specs.certs_basics.Basics.{IsAlgorithm}
use Rattle.certs_crl.specs.certs_basics.Forms.{IsTime}
use Rattle.certs_crl.specs.certs_basics.Names.{SpellsName}
use Rattle.certs_x509.specs.certs_extension.CertText.{IsVersion}
use Rattle.certs_cert.proofs.Joined.{as_read, field, join, kept_as}
use Rattle.certs_crl.specs.Reading.{IsTail}
use Rattle.certs_crl.proofs.Octets.{value_before, values_as}
use Rattle.certs_crl.proofs.of_bcder_content.InMode.{begin, next, stop, stop_all, finish}
use Rattle.certs_crl.proofs.reading.take_fields.Goals as goal

pub returns-in_err-version-clause-reads : goal.returns-in_err-version-clause-reads
returns-in_err-version-clause-reads g c = stop _ begin c.from_residual.ensures c.in_err-version.ensures.reads

pub returns-in_err-signature-clause-reads : goal.returns-in_err-signature-clause-reads
returns-in_err-signature-clause-reads g c = stop _ (next begin c.in_ok-version.ensures.reads) c.from_residual-in_err-signature.ensures c.in_err-signature.ensures.reads

pub returns-in_err-issuer-clause-reads : goal.returns-in_err-issuer-clause-reads
returns-in_err-issuer-clause-reads g c =
    let s = next (next begin c.in_ok-version.ensures.reads) c.in_ok-signature.ensures.reads in
    stop _ s c.from_residual-in_err-issuer.ensures c.in_err-issuer.ensures.reads

pub returns-in_err-this_update-clause-reads : goal.returns-in_err-this_update-clause-reads
returns-in_err-this_update-clause-reads g c =
    let s = next (next (next begin c.in_ok-version.ensures.reads) c.in_ok-signature.ensures.reads) c.in_ok-issuer.ensures.reads in
    stop _ s c.from_residual-in_err-this_update.ensures c.in_err-this_update.ensures.reads

pub returns-in_err-next_update-clause-reads : goal.returns-in_err-next_update-clause-reads
returns-in_err-next_update-clause-reads g c =
    let s = next (next (next begin c.in_ok-version.ensures.reads) c.in_ok-signature.ensures.reads) c.in_ok-issuer.ensures.reads in
    stop _ (next s c.in_ok-this_update.ensures.reads) c.from_residual-in_err-next_update.ensures c.in_err-next_update.ensures.reads

pub returns-in_err-tail-clause-reads : goal.returns-in_err-tail-clause-reads
returns-in_err-tail-clause-reads g c =
    let s = next (next (next begin c.in_ok-version.ensures.reads) c.in_ok-signature.ensures.reads) c.in_ok-issuer.ensures.reads in
    stop_all _ (next (next s c.in_ok-this_update.ensures.reads) c.in_ok-next_update.ensures.reads) c.from_residual-in_err-tail.ensures c.in_err-tail.ensures.reads

pub returns-clause-reads : goal.returns-clause-reads
returns-clause-reads g c =
    let s = next (next (next begin c.in_ok-version.ensures.reads) c.in_ok-signature.ensures.reads) c.in_ok-issuer.ensures.reads in
    finish (next (next s c.in_ok-this_update.ensures.reads) c.in_ok-next_update.ensures.reads) c.in_ok-tail.ensures.reads refl

pub returns-clause-octets : goal.returns-clause-octets
returns-clause-octets g c =
    as_read refl
    (join (field (λ m. IsVersion 1) c.in_ok-version.ensures.reads)
    (join (field (λ m. IsAlgorithm) c.in_ok-signature.ensures.reads)
    (join (kept_as {P = SpellsName} c.in_ok-issuer.ensures.octets c.in_ok-issuer.ensures.spells)
    (value_before (λ m. IsTime) {P = λ m. Then IsTime (IsTail m)} c.in_ok-this_update.ensures.reads
    (value_before (λ m. IsTime) {P = IsTail} c.in_ok-next_update.ensures.reads
    (values_as {P = IsTail} c.in_ok-tail.ensures.reads))))))
