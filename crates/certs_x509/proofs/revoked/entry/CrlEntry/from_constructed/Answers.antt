use Rattle.certs_x509.proofs.of_bcder_content.InMode.{begin, next, stop, done}
use Rattle.std.proofs.Common.{ap}
use Rattle.certs_x509.specs.Entries.{entry_fields}
use Rattle.certs_x509.proofs.revoked.entry.CrlEntry.from_constructed.Goals as goal

pub returns-in_err-user_certificate-clause-reads : goal.returns-in_err-user_certificate-clause-reads
returns-in_err-user_certificate-clause-reads g c = stop _ begin c.from_residual.ensures c.in_err-user_certificate.ensures.reads

pub returns-in_err-revocation_date-clause-reads : goal.returns-in_err-revocation_date-clause-reads
returns-in_err-revocation_date-clause-reads g c =
    stop _ (next begin c.in_ok-user_certificate.ensures.reads) c.from_residual-in_err-revocation_date.ensures c.in_err-revocation_date.ensures.reads

pub returns-clause-reads : goal.returns-clause-reads
returns-clause-reads g c =
    done (next (next begin c.in_ok-user_certificate.ensures.reads) c.in_ok-revocation_date.ensures.reads) (ap entry_fields c.new.ensures)
