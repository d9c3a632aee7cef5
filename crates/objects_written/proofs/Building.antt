-- What is written of an object's parts, put together.
use Rattle.std.proofs.Common.{◌≡◌, ℕ, List, Result, Ok, Err, IfOk, sym, ap, ◌∙◌, subst}
use Rattle.objects_written.specs.bcder_tree.declared.mode.Mode.TheVariants.{Der}
use Rattle.objects_written.specs.bcder_octets.BitContents.{IsPadded}
use Rattle.objects_written.specs.bcder_content.Kept.{CapturedValue}
use Rattle.objects_written.specs.certs_basics.Basics.{IsTwentyLong}
use Rattle.objects_written.specs.certs_basics.HandedIn.{Digests}
use Rattle.objects_written.specs.certs_basics.Keys.{KeyValue}
use Rattle.objects_written.specs.certs_extension.Cert.{CertValue, TbsValue}
use Rattle.objects_written.specs.certs.Laws.{IsLawful}
use Rattle.objects_written.specs.certs.Tbs.{WritesTbs}
use Rattle.certs_cert.specs.Written.{WritesCert}
use Rattle.objects_written.specs.Attributes.{IsMessage, WritesAttributes, to_sign}
use Rattle.objects_written.specs.Builders.{AreFieldsOf, BuilderValue, IsBuilt, IsSigned, SignsAttributes, WritesObject}
use Rattle.objects_written.specs.Frames.{ObjectParts, SignerParts, object}

pub object_told : {E : Type 0} (kind content : List ℕ) (c : CertValue) (attributes k : CapturedValue) (sid octets signature : List ℕ) (s : SignerParts) (o : ObjectParts) → WritesCert c Der k.octets
    → sid ≡ c.tbs.subject_key_identifier → IsTwentyLong sid → octets ≡ sid → s ≡ record { sid = octets; attributes = attributes; signature = signature }
    → o ≡ record { content_type = kind; content = content; cert = k; signer = s } → (r : Result CapturedValue E) → IfOk r (λ x. (object o).writes Der x.octets)
    → IfOk r (λ x. WritesObject kind content c attributes signature x.octets)
object_told kind content c attributes k sid octets signature s o cert own long same signer parts (Ok x) h =
    let sid_is : o.signer.sid ≡ sid = ap (λ (p : ObjectParts). p.signer.sid) parts ∙ ap (λ (p : SignerParts). p.sid) signer ∙ same in
    record {
      parts = o;
      type_is = ap (λ (p : ObjectParts). p.content_type) parts;
      content_is = ap (λ (p : ObjectParts). p.content) parts;
      cert_is = subst (λ (q : CapturedValue). WritesCert c Der q.octets) (sym (ap (λ (p : ObjectParts). p.cert) parts)) cert;
      own = sid_is ∙ own;
      long = subst IsTwentyLong (sym sid_is) long;
      attributes_are = ap (λ (p : ObjectParts). p.signer.attributes) parts ∙ ap (λ (p : SignerParts). p.attributes) signer;
      signature_is = ap (λ (p : ObjectParts). p.signer.signature) parts ∙ ap (λ (p : SignerParts). p.signature) signer;
      written = h;
    }
object_told kind content c attributes k sid octets signature s o cert own long same signer parts (Err e) h = tt

-- An object that is built of these, and who signed it.
module _ (d : Digests) (b : BuilderValue) (kind content : List ℕ) (issuer_key key : KeyValue) (c : CertValue) (attributes : CapturedValue) (signature : List ℕ) (padded : IsPadded Der key.bits) (fields : AreFieldsOf d b issuer_key key c.tbs)
    (lawful : IsLawful c.tbs) (message : WritesTbs c.tbs c.signed.message) (algorithm : c.signed.has_null ≡ c.tbs.has_null)
    (are : WritesAttributes (to_sign kind (d.sha256 content) b.signing_time) attributes.octets) where
  whole : (octets : List ℕ) → WritesObject kind content c attributes signature octets → IsBuilt d b kind content octets
  whole octets h = record {
    issuer_key = issuer_key;
    key = key;
    padded = padded;
    cert = c;
    fields = fields;
    lawful = lawful;
    message = message;
    algorithm = algorithm;
    attributes = attributes;
    attributes_are = are;
    signature = signature;
    written = h;
  }

  pub built_told : {E : Type 0} (r : Result CapturedValue E) → IfOk r (λ x. WritesObject kind content c attributes signature x.octets) → IfOk r (λ x. IsBuilt d b kind content x.octets)
  built_told (Ok x) h = whole x.octets h
  built_told (Err e) h = tt

  pub signed_told : {E : Type 0} (HasKey : KeyValue → Type 0) (Signs : List ℕ → List ℕ → Type 0) (SignsOnce : KeyValue → List ℕ → List ℕ → Type 0) (r : Result CapturedValue E) → HasKey issuer_key
      → Signs c.signed.message c.signed.signature → SignsAttributes SignsOnce attributes.octets key signature → IfOk r (λ x. WritesObject kind content c attributes signature x.octets)
      → IfOk r (λ x. (y : IsBuilt d b kind content x.octets) × IsSigned HasKey Signs SignsOnce y)
  unfolding whole
  signed_told HasKey Signs SignsOnce (Ok x) has signs once h = (whole x.octets h, record { issuer = has; cert = signs; attributes = once })
  signed_told HasKey Signs SignsOnce (Err e) has signs once h = tt

-- What holds of the fields holds of the certificate that is signed of them.
pub cert_has : {E : Type 0} (P : TbsValue → Type 0) (t : TbsValue) → P t → (r : Result CertValue E) → IfOk r (λ c. c.tbs ≡ t) → IfOk r (λ c. P c.tbs)
cert_has P t p (Ok c) h = subst P (sym h) p
cert_has P t p (Err e) h = tt

pub cert_message : {E : Type 0} (t : TbsValue) (r : Result CertValue E) → IfOk r (λ c. c.tbs ≡ t) → IfOk r (λ c. WritesTbs t c.signed.message) → IfOk r (λ c. WritesTbs c.tbs c.signed.message)
cert_message t (Ok c) h w = subst (λ (u : TbsValue). WritesTbs u c.signed.message) (sym h) w
cert_message t (Err e) h w = tt

pub cert_algorithm : {E : Type 0} (t : TbsValue) (r : Result CertValue E) → IfOk r (λ c. c.tbs ≡ t) → IfOk r (λ c. c.signed.has_null ≡ t.has_null) → IfOk r (λ c. c.signed.has_null ≡ c.tbs.has_null)
cert_algorithm t (Ok c) h w = w ∙ ap (λ (u : TbsValue). u.has_null) (sym h)
cert_algorithm t (Err e) h w = tt

-- What was signed is the message of attributes.
pub once_told : {A E : Type 0} (SignsOnce : KeyValue → List ℕ → List ℕ → Type 0) (key : A → KeyValue) (signature : A → List ℕ) (attributes message octets : List ℕ) → octets ≡ message → IsMessage attributes message
    → (r : Result A E) → IfOk r (λ x. SignsOnce (key x) octets (signature x)) → IfOk r (λ x. SignsAttributes SignsOnce attributes (key x) (signature x))
once_told SignsOnce key signature attributes message octets same is (Ok x) h = record { message = octets; message_is = subst (λ (m : List ℕ). IsMessage attributes m) (sym same) is; is = h }
once_told SignsOnce key signature attributes message octets same is (Err e) h = tt
