use Rattle.std.proofs.Common.{ap, ◌∙◌}
use Rattle.objects_cms.specs.objects_payload.Identifiers as id
use Rattle.objects_cms.specs.objects_payload.ObjectText.{IsSid, IsThree}
use Rattle.objects_cms.specs.bcder_tree.Strings.{IsOctetString}
use Rattle.objects_cms.proofs.of_bcder_content.InMode.{begin, done, next, stop}
use Rattle.certs_cert.proofs.Joined.{as_read, ended, field, join}
use Rattle.objects_cms.specs.Signer.{SignerValue, signer_fields}
use Rattle.objects_cms.proofs.signed.signer.SignerInfo.from_constructed.Goals as goal

pub returns-in_err-version-clause-reads : goal.returns-in_err-version-clause-reads
returns-in_err-version-clause-reads g c = stop _ begin c.from_residual.ensures c.in_err-version.ensures.reads

pub returns-in_err-sid-clause-reads : goal.returns-in_err-sid-clause-reads
returns-in_err-sid-clause-reads g c = stop _ (next begin c.in_ok-version.ensures.reads) c.from_residual-in_err-sid.ensures c.in_err-sid.ensures.reads

pub returns-in_err-digest-clause-reads : goal.returns-in_err-digest-clause-reads
returns-in_err-digest-clause-reads g c = stop _ (next (next begin c.in_ok-version.ensures.reads) c.in_ok-sid.ensures.reads) c.from_residual-in_err-digest.ensures c.in_err-digest.ensures.reads

pub returns-in_err-attributes-clause-reads : goal.returns-in_err-attributes-clause-reads
returns-in_err-attributes-clause-reads g c =
    let s = next (next begin c.in_ok-version.ensures.reads) c.in_ok-sid.ensures.reads in
    stop _ (next s c.in_ok-digest.ensures.reads) c.from_residual-in_err-attributes.ensures c.in_err-attributes.ensures.reads

pub returns-in_err-attributes-2-clause-reads : goal.returns-in_err-attributes-2-clause-reads
returns-in_err-attributes-2-clause-reads g c =
    let s = next (next begin c.in_ok-version.ensures.reads) c.in_ok-sid.ensures.reads in
    let lacks = rw c.in_err-attributes-2.ensures.err at c.cms_take_from.ensures.reads in
    stop _ (next (next s c.in_ok-digest.ensures.reads) c.in_ok-attributes.ensures.reads) c.from_residual-in_err-attributes-2.ensures lacks

pub returns-in_err-attributes-3-clause-reads : goal.returns-in_err-attributes-3-clause-reads
returns-in_err-attributes-3-clause-reads g c =
    let s = next (next begin c.in_ok-version.ensures.reads) c.in_ok-sid.ensures.reads in
    let t = next (next s c.in_ok-digest.ensures.reads) c.in_ok-attributes.ensures.reads in
    let algorithm = rw c.in_ok-attributes-2.ensures.ok.1 at c.cms_take_from.ensures.reads in
    let lacks = rw c.in_err-attributes-3.ensures.err at c.take_from-2.ensures.reads in
    stop _ (next t algorithm) c.from_residual-in_err-attributes-3.ensures lacks

pub returns-clause-reads : goal.returns-clause-reads
returns-clause-reads g c =
    let s = next (next begin c.in_ok-version.ensures.reads) c.in_ok-sid.ensures.reads in
    let t = next (next s c.in_ok-digest.ensures.reads) c.in_ok-attributes.ensures.reads in
    let algorithm = rw c.in_ok-attributes-2.ensures.ok.1 at c.cms_take_from.ensures.reads in
    let signature = rw c.in_ok-attributes-3.ensures.ok.1 at c.take_from-2.ensures.reads in
    done (next (next t algorithm) signature)
    (ap (λ a. signer_fields (let s : SignerValue = record { sid = c.in_ok-sid.sid; attributes = a; has_null = c.in_ok-attributes-2.algorithm; signature = c.in_ok-attributes-3.signature } in s)) (c.in_ok-attributes-3.ensures.ok.0 ∙ c.in_ok-attributes-2.ensures.ok.0))

pub returns-clause-octets : goal.returns-clause-octets
returns-clause-octets g c =
    let algorithm = rw c.in_ok-attributes-2.ensures.ok.1 at c.cms_take_from.ensures.reads in
    let last = rw c.in_ok-attributes-3.ensures.ok.1 at c.take_from-2.ensures.reads in
    as_read (ap (λ a. signer_fields (let s : SignerValue = record { sid = c.in_ok-sid.sid; attributes = a; has_null = c.in_ok-attributes-2.algorithm; signature = c.in_ok-attributes-3.signature } in s)) (c.in_ok-attributes-3.ensures.ok.0 ∙ c.in_ok-attributes-2.ensures.ok.0))
    (join (field (λ m. IsThree) c.in_ok-version.ensures.reads)
    (join (field IsSid c.in_ok-sid.ensures.reads)
    (join (field (λ m. id.IsDigestAlgorithm) c.in_ok-digest.ensures.reads)
    (join c.in_ok-attributes.ensures.octets
    (join (field (λ m. id.IsSignatureAlgorithm) algorithm)
    (join (field IsOctetString last)
    (ended last.took.goes.behind)))))))
