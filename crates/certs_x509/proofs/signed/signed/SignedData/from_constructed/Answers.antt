use Rattle.std.proofs.Common.{Bool, ap}
use Rattle.certs_x509.proofs.of_bcder_content.InMode.{begin, next, stop, done}
use Rattle.certs_x509.specs.certs_key.Algorithms.{SignatureValue}
use Rattle.certs_x509.specs.Signed.{kept_message}
use Rattle.certs_x509.proofs.Messages.{fields_took}
use Rattle.certs_x509.proofs.signed.signed.SignedData.from_constructed.Goals as goal

pub returns-in_err-message-clause-reads : goal.returns-in_err-message-clause-reads
returns-in_err-message-clause-reads g c = stop _ begin c.from_residual.ensures c.in_err-message.ensures.reads

pub returns-in_err-algorithm-clause-reads : goal.returns-in_err-algorithm-clause-reads
returns-in_err-algorithm-clause-reads g c = stop _ (next begin c.in_ok-message.ensures.reads) c.from_residual-in_err-algorithm.ensures c.in_err-algorithm.ensures.reads

pub returns-in_err-bits-clause-reads : goal.returns-in_err-bits-clause-reads
returns-in_err-bits-clause-reads g c =
    stop _ (next (next begin c.in_ok-message.ensures.reads) c.in_ok-algorithm.ensures.reads) c.from_residual-in_err-bits.ensures c.in_err-bits.ensures.reads

pub returns-clause-reads : goal.returns-clause-reads
returns-clause-reads g c =
    done (next (next (next begin c.in_ok-message.ensures.reads) c.in_ok-algorithm.ensures.reads) c.in_ok-bits.ensures.reads)
    (ap (λ (s : SignatureValue Bool). (kept_message c.in_ok-message.message, (s.algorithm, (s.bits, tt)))) c.from_bits-signature.ensures)

pub returns-clause-octets : goal.returns-clause-octets
returns-clause-octets g c =
    fields_took (ap (λ (s : SignatureValue Bool). ((c.in_ok-message.message.octets, tt), (s.algorithm, (s.bits, tt)))) c.from_bits-signature.ensures)
    c.in_ok-message.ensures.octets c.in_ok-message.ensures.reads c.in_ok-algorithm.ensures.reads c.in_ok-bits.ensures.reads
