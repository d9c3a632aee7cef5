use Rattle.std.proofs.Common.{List, ap, refl}
use Rattle.certs_crl.specs.bcder_tree.declared.mode.Mode.TheVariants.{Der}
use Rattle.certs_x509.specs.bcder_primitive.Encoded.{WritesWrapped}
use Rattle.certs_x509.specs.bcder_values.Captures.{CapturedText}
use Rattle.certs_x509.specs.certs_extension.CrlText.{RevokedValue}
use Rattle.certs_crl.specs.Fields.{ListOf, as_list}
use Rattle.certs_crl.proofs.Alone.{alone_written, list_back, none_back}
use Rattle.certs_crl.proofs.Writing.{list_as, list_by, revoked_as}
use Rattle.certs_crl.proofs.written.TbsCertList+RevokedCertificates.encode_ref.Goals as goal

pub returns-clause-writes : goal.returns-clause-writes
returns-clause-writes c = λ m text w.
    let list = as_list c.args.self.now in
    let p = c.parts-version.ensures in
    let same = ap (λ (z : ListOf (List RevokedValue)). z.revoked) c.self.view_is in
    let o = c.encode_ref-revoked.result in
    list_as list m text
    (λ part h. revoked_as (λ v. v.tag) (λ v. v.inner.now) list.revoked m part o (rw same at c.encode_ref-revoked.ensures.none) c.encode_ref-revoked.ensures.tag
    (rw same at c.encode_ref-revoked.ensures.octets) h)
    (list_by list m text p.long p.named refl p.version_tag p.version p.signature p.issuer p.this_update p.next_update (λ part h. p.writes m part h) w)

pub returns-clause-alone : goal.returns-clause-alone
returns-clause-alone c = λ none text w.
    let list = as_list c.args.self.now in
    let p = c.parts-version.ensures in
    let same = ap (λ (z : ListOf (List RevokedValue)). z.revoked) c.self.view_is in
    let o = c.encode_ref-revoked.result in
    alone_written list (none_back (λ v. WritesWrapped Der v.tag (CapturedText v.inner.now Der)) o (rw same at c.encode_ref-revoked.ensures.some) none)
    (λ octets h. list_back list refl p.version_tag p.version p.signature p.issuer p.this_update p.next_update (λ part k. p.whole Der part k) octets h) text w
