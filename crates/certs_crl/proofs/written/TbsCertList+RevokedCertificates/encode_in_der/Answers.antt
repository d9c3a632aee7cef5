use Rattle.std.proofs.Common.{List, ap, refl}
use Rattle.certs_crl.specs.bcder_tree.declared.mode.Mode.TheVariants.{Der}
use Rattle.certs_x509.specs.certs_extension.CrlText.{RevokedValue}
use Rattle.certs_crl.specs.Fields.{ListOf, as_list}
use Rattle.certs_crl.proofs.Alone.{list_back}
use Rattle.certs_crl.proofs.Writing.{fields_as, list_by, listed_as, listed_back}
use Rattle.certs_crl.proofs.written.TbsCertList+RevokedCertificates.encode_in_der.Goals as goal

pub returns-clause-writes : goal.returns-clause-writes
returns-clause-writes c = λ text w.
    let list = as_list c.args.self.now in
    let p = c.parts-version.ensures in
    let same = ap (λ (z : ListOf (List RevokedValue)). z.revoked) c.self.view_is in
    let o = c.encode_entries-revoked.result in
    let e = c.encode_entries-revoked.ensures in
    fields_as (λ part h. listed_as (λ v. v.tag) (λ v. v.inner.0) list.revoked part o (rw same at e.none) (rw same at e.some) e.tag (rw same at e.entries) h)
    (list_by list Der text p.long p.named refl p.version_tag p.version p.signature p.issuer p.this_update p.next_update (λ part h. p.writes Der part h) w)

pub returns-clause-whole : goal.returns-clause-whole
returns-clause-whole c = λ text w.
    let list = as_list c.args.self.now in
    let p = c.parts-version.ensures in
    let same = ap (λ (z : ListOf (List RevokedValue)). z.revoked) c.self.view_is in
    let o = c.encode_entries-revoked.result in
    let e = c.encode_entries-revoked.ensures in
    list_back list refl p.version_tag p.version p.signature p.issuer p.this_update p.next_update (λ part h. p.whole Der part h) text
    (fields_as (λ part h. listed_back (λ v. v.tag) (λ v. v.inner.0) list.revoked part o (rw same at e.none) (rw same at e.some) e.tag (rw same at e.entries) h) w)
