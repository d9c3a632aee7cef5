use Rattle.std.proofs.Common.{List, subst, sym}
use Rattle.certs_crl.specs.bcder_tree.Tree.{primitive}
use Rattle.certs_crl.specs.certs_basics.Basics.{IsTwentyLong}
use Rattle.certs_crl.specs.certs_basics.Forms.{WritesTime}
use Rattle.certs_crl.specs.Written.{WritesListExtensions}
use Rattle.certs_name.specs.Named.{IsNamed}
use Rattle.certs_x509.specs.certs_extension.CrlText.{RevokedValue}
use Rattle.certs_crl.specs.Fields.{ListOf}
use Rattle.certs_crl.proofs.written.TbsCertList+RevokedCertificates.parts.Goals as goal

pub returns-clause-named : goal.returns-clause-named
returns-clause-named c = subst (λ (z : ListOf (List RevokedValue)). IsNamed z.issuer) c.self.view_is c.name_of-issuer.ensures.named

pub returns-clause-this_update : goal.returns-clause-this_update
returns-clause-this_update c =
    let text = c.encode_varied-this_update.result in
    subst (λ (z : ListOf (List RevokedValue)). WritesTime z.this_update (primitive text.tag text.content.0)) c.self.view_is c.encode_varied-this_update.ensures

pub returns-clause-next_update : goal.returns-clause-next_update
returns-clause-next_update c =
    let text = c.encode_varied-next_update.result in
    subst (λ (z : ListOf (List RevokedValue)). WritesTime z.next_update (primitive text.tag text.content.0)) c.self.view_is c.encode_varied-next_update.ensures

pub returns-clause-writes : goal.returns-clause-writes
returns-clause-writes c = λ m text w.
    subst (λ (z : ListOf (List RevokedValue)). WritesListExtensions z.authority_key_identifier z.number m text) c.self.view_is (c.extensions-extensions.ensures.writes m text w)

pub returns-clause-whole : goal.returns-clause-whole
returns-clause-whole c = λ m text w.
    c.extensions-extensions.ensures.whole m text (subst (λ (z : ListOf (List RevokedValue)). WritesListExtensions z.authority_key_identifier z.number m text) (sym c.self.view_is) w)

pub returns-clause-long : goal.returns-clause-long
returns-clause-long c = subst (λ (z : ListOf (List RevokedValue)). IsTwentyLong z.authority_key_identifier) c.self.view_is c.extensions-extensions.ensures.long
