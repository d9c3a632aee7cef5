use Rattle.std.proofs.Common.{ap, ◌∙◌}
use Rattle.objects_cms.specs.objects_payload.ObjectText.{AreDigestAlgorithms, IsContentInfo, IsThree}
use Rattle.certs_cert.proofs.Joined.{as_read, ended, field, join, read_as}
use Rattle.objects_cms.specs.Frame.{signed_fields}
use Rattle.objects_cms.proofs.of_bcder_content.InMode.{begin, done, next, stop}
use Rattle.objects_cms.proofs.Beginning.{begins_signed, none_wanted, wanted}
use Rattle.objects_cms.proofs.signed.frame.take_fields.Goals as goal

pub returns-in_err-version-clause-reads : goal.returns-in_err-version-clause-reads
returns-in_err-version-clause-reads g c = stop _ begin c.from_residual.ensures c.in_err-version.ensures.reads

pub returns-in_err-digest-clause-reads : goal.returns-in_err-digest-clause-reads
returns-in_err-digest-clause-reads g c = stop _ (next begin c.in_ok-version.ensures.reads) c.from_residual-in_err-digest.ensures c.in_err-digest.ensures.reads

pub returns-in_err-typed-clause-reads : goal.returns-in_err-typed-clause-reads
returns-in_err-typed-clause-reads g c =
    let s = next (next begin c.in_ok-version.ensures.reads) c.in_ok-digest.ensures.reads in
    stop _ s c.from_residual-in_err-typed.ensures c.in_err-typed.ensures.reads

pub returns-in_err-typed-2-clause-reads : goal.returns-in_err-typed-2-clause-reads
returns-in_err-typed-2-clause-reads g c =
    let s = next (next begin c.in_ok-version.ensures.reads) c.in_ok-digest.ensures.reads in
    let lacks = rw c.in_err-typed-2.ensures.err at c.take_certificates.ensures.reads in
    stop _ (next s c.in_ok-typed.ensures.reads) c.from_residual-in_err-typed-2.ensures lacks

pub returns-in_err-both-clause-reads : goal.returns-in_err-both-clause-reads
returns-in_err-both-clause-reads g c =
    let s = next (next begin c.in_ok-version.ensures.reads) c.in_ok-digest.ensures.reads in
    let cert = rw c.in_ok-typed-2.ensures.ok.1 at c.take_certificates.ensures.reads in
    let lacks = rw c.in_err-both.ensures.err at c.take_signers.ensures.reads in
    stop _ (next (next s c.in_ok-typed.ensures.reads) cert) c.from_residual-in_err-both.ensures lacks

pub returns-clause-reads : goal.returns-clause-reads
returns-clause-reads g c =
    let s = next (next begin c.in_ok-version.ensures.reads) c.in_ok-digest.ensures.reads in
    let cert = rw c.in_ok-typed-2.ensures.ok.1 at c.take_certificates.ensures.reads in
    let signer = rw c.in_ok-both.ensures.ok.1 at c.take_signers.ensures.reads in
    done (next (next (next s c.in_ok-typed.ensures.reads) cert) signer)
    (ap (λ both. signed_fields (both.0, both.1, c.in_ok-both.signer)) (c.in_ok-both.ensures.ok.0 ∙ ap (λ typed. (typed, c.in_ok-typed-2.cert)) c.in_ok-typed-2.ensures.ok.0))

pub returns-clause-octets : goal.returns-clause-octets
returns-clause-octets g c =
    let cert = rw c.in_ok-typed-2.ensures.ok.1 at c.take_certificates.ensures.octets in
    let signer = rw c.in_ok-both.ensures.ok.1 at c.take_signers.ensures.octets in
    let last = read_as signer in
    as_read (ap (λ both. signed_fields (both.0, both.1, c.in_ok-both.signer)) (c.in_ok-both.ensures.ok.0 ∙ ap (λ typed. (typed, c.in_ok-typed-2.cert)) c.in_ok-typed-2.ensures.ok.0))
    (join (field (λ m. IsThree) c.in_ok-version.ensures.reads)
    (join (field (λ m. AreDigestAlgorithms) c.in_ok-digest.ensures.reads)
    (join (field IsContentInfo c.in_ok-typed.ensures.reads)
    (join (read_as cert)
    (join last
    (ended last.goes.behind))))))

pub returns-in_err-version-clause-memory : goal.returns-in_err-version-clause-memory
returns-in_err-version-clause-memory g c = none_wanted _ _ _ c.from_residual.ensures c.in_err-version.ensures.no_memory

pub returns-in_err-digest-clause-memory : goal.returns-in_err-digest-clause-memory
returns-in_err-digest-clause-memory g c = none_wanted _ _ _ c.from_residual-in_err-digest.ensures c.in_err-digest.ensures.no_memory

pub returns-in_err-typed-clause-memory : goal.returns-in_err-typed-clause-memory
returns-in_err-typed-clause-memory g c =
    wanted _ (begins_signed c.in_ok-version.ensures.reads c.in_ok-digest.ensures.reads)

pub returns-in_err-typed-2-clause-memory : goal.returns-in_err-typed-2-clause-memory
returns-in_err-typed-2-clause-memory g c =
    wanted _ (begins_signed c.in_ok-version.ensures.reads c.in_ok-digest.ensures.reads)

pub returns-in_err-both-clause-memory : goal.returns-in_err-both-clause-memory
returns-in_err-both-clause-memory g c =
    wanted _ (begins_signed c.in_ok-version.ensures.reads c.in_ok-digest.ensures.reads)
