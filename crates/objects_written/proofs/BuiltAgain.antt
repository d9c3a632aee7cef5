-- A signed object that is built is read again, and is sound where its signature is good.
use Rattle.std.proofs.Common.{◌≡◌, ◌≤◌, ℕ, List, true, sym, ap, subst}
use Rattle.objects_written.specs.bcder_tree.declared.mode.Mode.TheVariants.{Der}
use Rattle.objects_written.specs.bcder_octets.BitContents.{IsPadded}
use Rattle.objects_written.specs.bcder_content.Kept.{CapturedValue}
use Rattle.objects_written.specs.bcder.Identifiers.{IsIdentifier}
use Rattle.objects_written.specs.certs_basics.HandedIn.{Digests}
use Rattle.objects_written.specs.certs_basics.Keys.{KeyValue}
use Rattle.objects_written.specs.certs_basics.Verdicts.{Verdicts}
use Rattle.objects_written.specs.certs_extension.Cert.{SignedValue, TbsValue}
use Rattle.objects_written.specs.certs_extension.CertText.{SpellsCert}
use Rattle.objects_written.specs.objects_payload.ObjectText.{IsSignedMessage, ObjectText, Sound}
use Rattle.objects_written.specs.certs.Laws.{BuiltIsSpelled, FieldsStay, IsReadable, as_read, fields_again}
use Rattle.objects_written.specs.certs.Tbs.{WritesTbs}
use Rattle.objects_written.specs.Attributes.{ToSign, WritesAttributes, to_sign}
use Rattle.objects_written.specs.Builders.{BuilderValue, IsBuilt, IsComplete, built_object}
use Rattle.objects_written.proofs.FrameAgain.{parts_again}

-- The certificate's fields are such that they are read again.
readable : (d : Digests) (b : BuilderValue) (kind content octets : List ℕ) (x : IsBuilt d b kind content octets) → IsComplete b → IsReadable x.cert.tbs
readable d b kind content octets x complete =
    subst IsReadable (sym x.fields.fields) (record { some = complete.some; whole = complete.whole })

-- What was written of it spells it.
cert_spelled : BuiltIsSpelled → FieldsStay → (d : Digests) (b : BuilderValue) (kind content octets : List ℕ) (x : IsBuilt d b kind content octets) → IsComplete b
    → SpellsCert Der x.written.parts.cert.octets (as_read x.written.cert_is.value x.cert.tbs)
cert_spelled again stay d b kind content octets x complete =
    let w = x.written.cert_is in
    let t : TbsValue = x.cert.tbs in
    let key : x.key ≡ t.key = ap (λ (u : TbsValue). u.key) (sym x.fields.fields) in
    let same : fields_again t ≡ t = stay t (subst (λ (k : KeyValue). IsPadded Der k.bits) key x.padded) in
    let message : w.value.message.octets ≡ x.cert.signed.message = ap (λ (s : SignedValue). s.message) w.same in
    let spelled =
    again w.value t x.written.parts.cert.octets x.lawful (readable d b kind content octets x complete)
    (record { message = subst (WritesTbs t) (sym message) x.message; written = w.text_is }) in
    subst (λ (u : TbsValue). SpellsCert Der x.written.parts.cert.octets (as_read w.value u)) same spelled

pub built_again : BuiltIsSpelled → FieldsStay → (d : Digests) (b : BuilderValue) (kind content octets : List ℕ) (x : IsBuilt d b kind content octets) → IsIdentifier kind → IsComplete b
    → ObjectText true octets (built_object x)
built_again again stay d b kind content octets x known complete =
    let o = x.written.parts in
    let s : ToSign = to_sign kind (d.sha256 content) b.signing_time in
    parts_again o (as_read x.written.cert_is.value x.cert.tbs) s octets (record {
      known = subst IsIdentifier (sym x.written.type_is) known;
      same_type = sym x.written.type_is;
      cert = cert_spelled again stay d b kind content octets x complete;
      own = x.written.own;
      long = x.written.long;
      attributes = subst (λ (k : CapturedValue). WritesAttributes s k.octets) (sym x.written.attributes_are) x.attributes_are;
    }) x.written.written

-- Its digest is its content's, and it is signed in time.
pub built_sound : (d : Digests) (v : Verdicts) (b : BuilderValue) (kind content octets : List ℕ) (x : IsBuilt d b kind content octets) → b.signing_time ≤ b.not_after
    → (message : List ℕ) → IsSignedMessage (built_object x).signer message → v x.key true message (built_object x).signer.signature ≡ true → Sound d v (built_object x)
built_sound d v b kind content octets x time message is good =
    let after : b.not_after ≡ x.cert.tbs.not_after = ap (λ (t : TbsValue). t.not_after) (sym x.fields.fields) in
    let key : x.key ≡ x.cert.tbs.key = ap (λ (t : TbsValue). t.key) (sym x.fields.fields) in
    record {
      digest = ap d.sha256 (sym x.written.content_is);
      time = subst (λ (n : ℕ). b.signing_time ≤ n) after time;
      message = message;
      message_is = is;
      signature = subst (λ k. v k true message (built_object x).signer.signature ≡ true) key good;
    }
