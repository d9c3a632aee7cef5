-- The fields of a certificate, set one by one.
use Rattle.std.proofs.Common.{◌≡◌, ℕ, List, Some, Result, Ok, Err, IfOk, sym, ap, ◌∙◌, subst}
use Rattle.objects_written.specs.bcder_content.Kept.{CapturedValue}
use Rattle.objects_written.specs.certs_basics.HandedIn.{Digests}
use Rattle.objects_written.specs.certs_basics.Keys.{KeyValue, identifier}
use Rattle.objects_written.specs.certs_extension.Cert.{TbsValue}
use Rattle.objects_written.specs.certs_extension.declared.forms.KeyUsage.TheVariants.{Ee}
use Rattle.objects_written.specs.resources_chain.Claims.{Choice}
use Rattle.objects_written.specs.resources_chain.declared.claims.Overclaim.TheVariants.{Refuse}
use Rattle.certs_cert.specs.certs_basics.Periods.{Period}
use Rattle.certs_cert.specs.Fresh.{IsSubjectFor, fresh}
use Rattle.objects_written.specs.Builders.{AreFieldsOf, BuilderValue, cert_fields, with_places, with_resources}

pub placed_as : (a b c d e : TbsValue) (authority crl ca object : List ℕ) → b ≡ record a { authority_key_identifier = Some authority } → c ≡ record b { crl_uri = Some crl }
    → d ≡ record c { ca_issuer = Some ca } → e ≡ record d { access = record d.access { object = Some object } } → e ≡ with_places a authority crl ca object
placed_as a b c d e authority crl ca object p q r s =
    s ∙ ap (λ (t : TbsValue). record t { access = record t.access { object = Some object } })
    (r ∙ ap (λ (t : TbsValue). record t { ca_issuer = Some ca }) (q ∙ ap (λ (t : TbsValue). record t { crl_uri = Some crl }) p))

pub held_as : (a b c d : TbsValue) (v4 v6 asn : Choice) → b ≡ record a { v4 = v4 } → c ≡ record b { v6 = v6 } → d ≡ record c { asn = asn } → d ≡ with_resources a v4 v6 asn
held_as a b c d v4 v6 asn p q r = r ∙ ap (λ (t : TbsValue). record t { asn = asn }) (q ∙ ap (λ (t : TbsValue). record t { v6 = v6 }) p)

-- Fields that are made by a name have this name.
pub named_as : {E : Type 0} (serial : ℕ) (p : Period) (issuer : CapturedValue) (key : KeyValue) (own : List ℕ) (r : Result TbsValue E)
    → IfOk r (λ t. t ≡ fresh serial issuer p t.subject key own Ee Refuse) → IfOk r (λ t. t ≡ fresh serial t.issuer p t.subject key own Ee Refuse)
named_as serial p issuer key own (Ok t) h = h ∙ ap (λ (n : CapturedValue). fresh serial n p t.subject key own Ee Refuse) (sym (ap (λ (x : TbsValue). x.issuer) h))
named_as serial p issuer key own (Err e) h = tt

pub issuer_as : {E : Type 0} (P : CapturedValue → Type 0) (serial : ℕ) (p : Period) (issuer : CapturedValue) (key : KeyValue) (own : List ℕ) (r : Result TbsValue E) → P issuer
    → IfOk r (λ t. t ≡ fresh serial issuer p t.subject key own Ee Refuse) → IfOk r (λ t. P t.issuer)
issuer_as P serial p issuer key own (Ok t) is h = subst P (sym (ap (λ (x : TbsValue). x.issuer) h)) is
issuer_as P serial p issuer key own (Err e) is h = tt

pub fields_as : (d : Digests) (b : BuilderValue) (issuer_key key : KeyValue) (p : Period) (s t u : TbsValue) (given : List ℕ) → given ≡ identifier d issuer_key
    → p.not_before ≡ b.not_before → p.not_after ≡ b.not_after → s ≡ fresh b.serial s.issuer p s.subject key (identifier d key) Ee Refuse → IsSubjectFor d issuer_key b.issuer s.issuer → IsSubjectFor d key b.subject s.subject
    → t ≡ with_places s given b.crl_uri b.ca_issuer b.signed_object → u ≡ with_resources t b.v4 b.v6 b.asn → AreFieldsOf d b issuer_key key u
fields_as d b issuer_key key p s t u given own before after fresh_is issuer subject placed held =
    let authority = identifier d issuer_key in
    let whole : u ≡ with_resources (with_places s authority b.crl_uri b.ca_issuer b.signed_object) b.v4 b.v6 b.asn =
    held ∙ ap (λ (x : TbsValue). with_resources x b.v4 b.v6 b.asn) (placed ∙ ap (λ (a : List ℕ). with_places s a b.crl_uri b.ca_issuer b.signed_object) own) in
    let by_issuer : u.issuer ≡ s.issuer = ap (λ (x : TbsValue). x.issuer) whole in
    let by_subject : u.subject ≡ s.subject = ap (λ (x : TbsValue). x.subject) whole in
    let made : u ≡ with_resources (with_places (fresh b.serial s.issuer p s.subject key (identifier d key) Ee Refuse) authority b.crl_uri b.ca_issuer b.signed_object) b.v4 b.v6 b.asn =
    whole ∙ ap (λ (x : TbsValue). with_resources (with_places x authority b.crl_uri b.ca_issuer b.signed_object) b.v4 b.v6 b.asn) fresh_is in
    let period : p ≡ record { not_before = b.not_before; not_after = b.not_after } = λ i. record { not_before = before i; not_after = after i } in
    let dated : u ≡ cert_fields b s.issuer s.subject key (identifier d key) authority =
    made ∙ ap (λ (x : Period). with_resources (with_places (fresh b.serial s.issuer x s.subject key (identifier d key) Ee Refuse) authority b.crl_uri b.ca_issuer b.signed_object) b.v4 b.v6 b.asn) period in
    record {
      issuer = subst (λ (n : CapturedValue). IsSubjectFor d issuer_key b.issuer n) (sym by_issuer) issuer;
      subject = subst (λ (n : CapturedValue). IsSubjectFor d key b.subject n) (sym by_subject) subject;
      fields =
          dated ∙ ap (λ (n : CapturedValue). cert_fields b n s.subject key (identifier d key) authority) (sym by_issuer)
          ∙ ap (λ (n : CapturedValue). cert_fields b u.issuer n key (identifier d key) authority) (sym by_subject);
    }
