use Rattle.std.proofs.Common.{ap}
use Rattle.objects_cms.specs.objects_payload.ObjectText.{AreDigestAlgorithms, IsContentInfo, IsThree}
use Rattle.certs_cert.proofs.Joined.{as_read, field, join, read_as}
use Rattle.objects_cms.proofs.of_bcder_content.InMode.{begin, finish, next, stop, stop_all}
use Rattle.objects_rta.specs.MultiFrame.{multi_fields}
use Rattle.objects_rta.proofs.frame.take_fields.Goals as goal

pub returns-in_err-version-clause-reads : goal.returns-in_err-version-clause-reads
returns-in_err-version-clause-reads g c = stop _ begin c.from_residual.ensures c.in_err-version.ensures.reads

pub returns-in_err-digest-clause-reads : goal.returns-in_err-digest-clause-reads
returns-in_err-digest-clause-reads g c = stop _ (next begin c.in_ok-version.ensures.reads) c.from_residual-in_err-digest.ensures c.in_err-digest.ensures.reads

pub returns-in_err-typed-clause-reads : goal.returns-in_err-typed-clause-reads
returns-in_err-typed-clause-reads g c =
    let s = next (next begin c.in_ok-version.ensures.reads) c.in_ok-digest.ensures.reads in
    stop _ s c.from_residual-in_err-typed.ensures c.in_err-typed.ensures.reads

pub returns-in_err-typed-2-clause-reads : goal.returns-in_err-typed-2-clause-reads
returns-in_err-typed-2-clause-reads g c =
    let s = next (next begin c.in_ok-version.ensures.reads) c.in_ok-digest.ensures.reads in
    let lacks = rw c.in_err-typed-2.ensures.err at c.take_carried.ensures.reads in
    stop_all _ (next s c.in_ok-typed.ensures.reads) c.from_residual-in_err-typed-2.ensures lacks.reads

pub returns-clause-reads : goal.returns-clause-reads
returns-clause-reads g c =
    let s = next (next begin c.in_ok-version.ensures.reads) c.in_ok-digest.ensures.reads in
    let carried = rw c.in_ok-typed-2.ensures.ok.1 at c.take_carried.ensures.reads in
    finish (next s c.in_ok-typed.ensures.reads) carried.reads
    (ap (λ typed. multi_fields (typed, c.in_ok-typed-2.carried)) c.in_ok-typed-2.ensures.ok.0)

pub returns-clause-octets : goal.returns-clause-octets
returns-clause-octets g c =
    let carried = rw c.in_ok-typed-2.ensures.ok.1 at c.take_carried.ensures.octets in
    as_read (ap (λ typed. multi_fields (typed, c.in_ok-typed-2.carried)) c.in_ok-typed-2.ensures.ok.0)
    (join (field (λ m. IsThree) c.in_ok-version.ensures.reads)
    (join (field (λ m. AreDigestAlgorithms) c.in_ok-digest.ensures.reads)
    (join (field IsContentInfo c.in_ok-typed.ensures.reads)
    (read_as carried))))
