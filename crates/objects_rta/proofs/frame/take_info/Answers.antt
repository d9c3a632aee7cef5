use Rattle.std.proofs.Common.{refl}
use Rattle.objects_cms.specs.objects_payload.Identifiers as id
use Rattle.certs_cert.proofs.Joined.{as_read, ended, field, join, read_as}
use Rattle.objects_cms.proofs.of_bcder_content.InMode.{begin, done, next, stop}
use Rattle.objects_rta.proofs.frame.take_info.Goals as goal

pub returns-in_err-oid-clause-reads : goal.returns-in_err-oid-clause-reads
returns-in_err-oid-clause-reads g c = stop _ begin c.from_residual.ensures c.in_err-oid.ensures.reads

pub returns-in_err-parts-clause-reads : goal.returns-in_err-parts-clause-reads
returns-in_err-parts-clause-reads g c = stop _ (next begin c.in_ok-oid.ensures.reads) c.from_residual-in_err-parts.ensures c.in_err-parts.ensures.reads

pub returns-clause-reads : goal.returns-clause-reads
returns-clause-reads g c = done (next (next begin c.in_ok-oid.ensures.reads) c.in_ok-parts.ensures.reads) refl

pub returns-clause-octets : goal.returns-clause-octets
returns-clause-octets g c =
    let last = read_as c.in_ok-parts.ensures.octets in
    as_read refl
    (join (field (λ m. id.TheOid id.signed_data) c.in_ok-oid.ensures.reads)
    (join last
    (ended last.goes.behind)))
