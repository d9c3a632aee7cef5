use Rattle.std.specs.Prelude.{refl}
use Rattle.std.proofs.Common.{subst}
use Rattle.objects_written.specs.certs_basics.HandedIn.{Digests}
use Rattle.objects_written.specs.certs_key.Digesting.{digests_of}
use Rattle.objects_written.specs.Builders.{AreFieldsOf, BuilderValue}
use Rattle.objects_written.proofs.Setting.{fields_as}
use Rattle.objects_written.proofs.build.fields_for.Goals as goal

pub returns-in-Ok : goal.returns-in-Ok
returns-in-Ok g c =
    let made = c.in-Ok.ensures in
    let d : Digests = digests_of g.D.Digester.sha256_digest g.D.Digester.sha1_digest c.args.digester.now in
    let s = c.builder.inside in
    let b : BuilderValue = record {
      serial = s.identity.serial_number;
      not_before = s.identity.validity.not_before;
      not_after = s.identity.validity.not_after;
      issuer = s.identity.issuer;
      subject = s.identity.subject;
      crl_uri = s.places.crl_uri;
      ca_issuer = s.places.ca_issuer;
      signed_object = s.places.signed_object;
      v4 = s.holdings.v4;
      v6 = s.holdings.v6;
      asn = s.holdings.asn;
      signing_time = s.signing_time;
    } in
    let is = fields_as d b c.args.issuer_key.now c.args.key s.identity.validity c.in-Ok.cert c.placed.result c.held.result c.key_identifier-authority.result c.key_identifier-authority.ensures refl refl made.fields made.issuer made.subject
    c.placed.ensures c.held.ensures in
    subst (λ (x : BuilderValue). AreFieldsOf d x c.args.issuer_key.now c.args.key c.held.result) c.builder.view_is is
