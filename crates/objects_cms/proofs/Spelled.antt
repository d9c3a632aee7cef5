-- Octets that spell what stands around a content are those of a tree of the same values, in each mode.
use Rattle.std.proofs.Common.{ℕ, List, ap, refl, subst, sym}
use Rattle.objects_cms.specs.bcder_tree.declared.mode.Mode.{Mode}
use Rattle.objects_cms.specs.bcder_tree.Tags.{TagValue, sequence_tag}
use Rattle.objects_cms.specs.bcder_tree.Tree.{Tree, Trees, Spells, SpellsAll, constructed, more, none}
use Rattle.objects_cms.specs.bcder_content.Grammar.{End, Inside, Then}
use Rattle.objects_cms.specs.bcder_content.Kept.{CapturedValue}
use Rattle.objects_cms.specs.bcder_content.Texts.{InOrder, Joins, NoOctets, SpellsOf, WithOctets, Wraps}
use Rattle.objects_cms.specs.bcder_content.Words.{Kept}
use Rattle.objects_cms.specs.certs_basics.Names.{IsKeptName, SpellsName}
use Rattle.objects_cms.specs.certs_extension.Cert.{CertValue}
use Rattle.objects_cms.specs.certs_extension.CertText.{Fields, IsCert, IsTbs, IsTbsBody, SpellsCert, SpellsFields}
use Rattle.objects_cms.specs.objects_payload.SignedAttributes.{AreAttributes, AttributesValue}
use Rattle.objects_cms.specs.objects_payload.ObjectText.{ObjectFields, SignedFields, SignerFields, SpellsContentInfo, SpellsSignedData, SpellsSigner}
use Rattle.objects_cms.specs.Kept.{AreKept}
use Rattle.objects_cms.specs.Signer.{IsSigner}
use Rattle.objects_cms.specs.Frame.{IsFrame, IsSigned}

pub wraps : {A : Type 0} {m : Mode} {tag : TagValue} {R : Trees → A → Type 0} {P : List ℕ → A → Type 0} {text : List ℕ} {x : A}
    → (p : Wraps m tag P text x) → InOrder m R p.content x → SpellsOf m (Inside tag R) text x
wraps {tag = tag} p q = record { tree = constructed tag q.trees; is = record { values = q.trees; whole = refl; is = q.is }; spelled = (p.content, p.around, q.spelled) }

pub joins : {A B : Type 0} {m : Mode} {Q : Tree → A → Type 0} {R : Trees → B → Type 0} {P : List ℕ → A → Type 0} {S : List ℕ → B → Type 0}
    {text : List ℕ} {x : A × B} → (p : Joins P S text x) → SpellsOf m Q p.first x.0 → InOrder m R p.others x.1 → InOrder m (Then Q R) text x
joins p q r = record {
  trees = more q.tree r.trees;
  is = record { first = q.tree; others = r.trees; whole = refl; is = q.is; rest = r.is };
  spelled = (p.first, p.others, q.spelled, r.spelled, p.whole);
}

pub nothing : {m : Mode} {text : List ℕ} {x : Unit {0}} → NoOctets text x → InOrder m End text x
nothing p = record { trees = none; is = record { ended = refl }; spelled = p.none }

pub keeps : {A : Type 0} {m : Mode} {Q : Tree → A → Type 0} {P : List ℕ → A → Type 0} {text : List ℕ} {x : List ℕ × A}
    → (p : WithOctets P text x) → SpellsOf m Q text x.1 → SpellsOf m (Kept m Q) text x
keeps {m = m} p q = record {
  tree = q.tree;
  is = record { spelled = subst (λ (o : List ℕ). Spells m q.tree o) (sym p.same) q.spelled; is = q.is };
  spelled = q.spelled;
}

pub named : {m : Mode} {text : List ℕ} {x : CapturedValue} → SpellsName m text x → SpellsOf m (IsKeptName m) text x
named {m} p = record {
  tree = p.is.tree;
  is = record {
    mode = ap (λ (c : CapturedValue). c.mode) p.same;
    spelled = subst (λ (o : List ℕ). Spells m p.is.tree o) (sym (ap (λ (c : CapturedValue). c.octets) p.same)) p.is.spelled;
    all = p.all;
    is = p.is.is;
  };
  spelled = p.is.spelled;
}

-- Certificates.
fields_of : {m : Mode} {text : List ℕ} {f : Fields} → SpellsFields m text f → SpellsOf m (Inside sequence_tag (IsTbsBody m)) text f
fields_of w =
    let version = w.is in
    let serial = version.rest in
    let algorithm = serial.rest in
    let issuer = algorithm.rest in
    let validity = issuer.rest in
    let subject = validity.rest in
    let key = subject.rest in
    let extensions = key.rest in
    wraps w
    (joins version version.is
    (joins serial serial.is
    (joins algorithm algorithm.is
    (joins issuer (named issuer.is)
    (joins validity validity.is
    (joins subject (named subject.is)
    (joins key key.is
    (joins extensions extensions.is
    (nothing extensions.rest)))))))))

pub cert_of : {m : Mode} {text : List ℕ} {c : CertValue} → SpellsCert m text c → SpellsOf m (IsCert m) text c
cert_of {m} p =
    let message = p.is.is in
    let algorithm = message.rest in
    let bits = algorithm.rest in
    let tbs = message.is.is in
    let f = fields_of tbs.is in
    let t : SpellsOf m (IsTbs m) message.first p.fields.0.1 = record { tree = f.tree; is = record { fields = tbs.fields; is = f.is; says = tbs.says }; spelled = f.spelled } in
    let w = wraps p.is (joins message (keeps message.is t) (joins algorithm algorithm.is (joins bits bits.is (nothing bits.rest)))) in
    record { tree = w.tree; is = record { x = p.fields; is = w.is; means = p.says }; spelled = w.spelled }

-- Signers.
kept_of : {m : Mode} {text : List ℕ} {x : List ℕ × AttributesValue} → WithOctets (InOrder m (AreAttributes m)) text x → InOrder m (AreKept m) text x
kept_of {m} p = record {
  trees = p.is.trees;
  is = record { spelled = subst (λ (o : List ℕ). SpellsAll m p.is.trees o) (sym p.same) p.is.spelled; is = p.is.is };
  spelled = p.is.spelled;
}

pub signer_tree : {m : Mode} {text : List ℕ} {f : SignerFields} → SpellsSigner m text f → SpellsOf m (IsSigner m) text f
signer_tree w =
    let version = w.is in
    let sid = version.rest in
    let digest = sid.rest in
    let attributes = digest.rest in
    let algorithm = attributes.rest in
    let signature = algorithm.rest in
    wraps w
    (joins version version.is
    (joins sid sid.is
    (joins digest digest.is
    (joins attributes (wraps attributes.is (kept_of attributes.is.is))
    (joins algorithm algorithm.is
    (joins signature signature.is
    (nothing signature.rest)))))))

-- Signed data, and all of it.
signed_tree : {m : Mode} {text : List ℕ} {f : SignedFields} → SpellsSignedData m text f → SpellsOf m (IsSigned m) text f
signed_tree w =
    let version = w.is in
    let digests = version.rest in
    let content = digests.rest in
    let certs = content.rest in
    let signers = certs.rest in
    let cert = certs.is.is in
    let signer = signers.is.is in
    wraps w
    (joins version version.is
    (joins digests digests.is
    (joins content content.is
    (joins certs (wraps certs.is (joins cert (cert_of cert.is) (nothing cert.rest)))
    (joins signers (wraps signers.is (joins signer (signer_tree signer.is) (nothing signer.rest)))
    (nothing signers.rest))))))

pub frame_tree : {m : Mode} {text : List ℕ} {f : ObjectFields} → SpellsContentInfo m text f → SpellsOf m (IsFrame m) text f
frame_tree w =
    let oid = w.is in
    let inner = oid.rest in
    let signed = inner.is.is in
    wraps w
    (joins oid oid.is
    (joins inner (wraps inner.is (joins signed (signed_tree signed.is) (nothing signed.rest)))
    (nothing inner.rest)))
