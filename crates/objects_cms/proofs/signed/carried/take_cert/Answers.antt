use Rattle.std.proofs.Common.{ap}
use Rattle.certs_cert.proofs.Joined.{as_read, ended, join, read_as}
use Rattle.objects_cms.proofs.NoMemory.{no_room}
use Rattle.objects_cms.proofs.of_bcder_content.InMode.{begin, done, next, stop}
use Rattle.objects_cms.proofs.signed.carried.take_cert.Goals as goal

pub returns-in_err-cert-clause-reads : goal.returns-in_err-cert-clause-reads
returns-in_err-cert-clause-reads g c = stop _ begin c.from_residual.ensures c.in_err-cert.ensures.reads

pub returns-in_err-kept-clause-reads : goal.returns-in_err-kept-clause-reads
returns-in_err-kept-clause-reads g c = no_room _ c.from_residual-in_err-kept.ensures

pub returns-clause-reads : goal.returns-clause-reads
returns-clause-reads g c = done (next begin c.in_ok-cert.ensures.reads) (ap (λ x. (x, tt)) c.in_ok-kept.ensures)

pub returns-clause-octets : goal.returns-clause-octets
returns-clause-octets g c =
    let last = read_as c.in_ok-cert.ensures.octets in
    as_read (ap (λ x. (x, tt)) c.in_ok-kept.ensures) (join last (ended last.goes.behind))
