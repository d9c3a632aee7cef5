-- The octets of which a certificate is read: those of its fields with slots are its own, and they are all of what was kept.
use Rattle.std.proofs.Common.{◌≡◌, ℕ, List, [], ◌++◌, ◌∙◌, ap, append-nil, sym, subst}
use Rattle.certs_cert.specs.bcder_tree.declared.mode.Mode.{Mode}
use Rattle.certs_cert.specs.bcder_tree.Tree.{Tree}
use Rattle.certs_cert.specs.bcder_tree.Front.{Front}
use Rattle.certs_cert.specs.bcder_content.Contents.{ValuesLeft}
use Rattle.certs_cert.specs.bcder_content.Exact.{GivesAll}
use Rattle.certs_cert.specs.bcder_content.Texts.{InFront, Joins}
use Rattle.certs_cert.proofs.of_bcder_content.Keeping.{front_all}
use Rattle.certs_cert.proofs.of_bcder_tree.Trees.{one_tree}
use Rattle.certs_x509.specs.Signed.{AreSignedOctets, SignedDataValue, octet_fields, signed_content, signed_fields}
use Rattle.certs_x509.specs.Took.{TookOctets}
use Rattle.certs_extension.specs.Cert.{CertValue, TbsValue}
use Rattle.certs_extension.specs.CertText.{Fields, SpellsTbs}
use Rattle.certs_extension.proofs.Whole.{extensions_there}
use Rattle.certs_cert.specs.Reading.{Listed, ListedFields, SaysListed, SpellsListed, listed_fields, slots_of}
use Rattle.certs_cert.specs.Whole.{AreCertOctets, signed_of}
use Rattle.certs_cert.proofs.Listed.{slotted_list}
use Rattle.certs_cert.proofs.Spelled.{fields_tree}
use Rattle.certs_cert.proofs.Whole.{in_mode}

-- The first octets stay, and others come after them.
rejoin : {A B C : Type 0} {P : List ℕ → A → Type 0} {R : List ℕ → B → Type 0} {S : List ℕ → C → Type 0} {text : List ℕ} {x : A × B} {y : C}
    → (h : Joins P R text x) → S h.others y → Joins P S text (x.0, y)
rejoin h r = record { first = h.first; others = h.others; whole = h.whole; is = h.is; rest = r }

listed_spelled : {m : Mode} {text : List ℕ} {f : ListedFields} {c : TbsValue} → SpellsListed m text f → SaysListed f c → SpellsTbs m text c
listed_spelled {m} {f = f} {c} w s =
    let version = w.is in
    let serial = version.rest in
    let algorithm = serial.rest in
    let issuer = algorithm.rest in
    let validity = issuer.rest in
    let subject = validity.rest in
    let key = subject.rest in
    let slots = key.rest in
    let l = slotted_list slots.is.is in
    let g : Fields = (f.0, (f.1.0, (f.1.1.0, (f.1.1.1.0, (f.1.1.1.1.0, (f.1.1.1.1.1.0, (f.1.1.1.1.1.1.0, ((l.all, tt), tt)))))))) in
    record {
      fields = g;
      is = record {
        content = w.content;
        around = w.around;
        is = rejoin version (rejoin serial (rejoin algorithm (rejoin issuer (rejoin validity (rejoin subject (rejoin key (record {
          first = slots.first;
          others = slots.others;
          whole = slots.whole;
          is = record { tree = slots.is.tree; is = l.is; spelled = slots.is.spelled };
          rest = slots.rest;
        })))))));
      };
      says = record {
        serial = s.serial;
        has_null = s.has_null;
        issuer = s.issuer;
        not_before = s.not_before;
        not_after = s.not_after;
        subject = s.subject;
        key = s.key;
        extensions = extensions_there l.all c (slots_of f) l.says s.claims;
      };
    }

-- The fields with slots were read of these octets, and the slots mean what the certificate claims.
pub tbs_took : {now new : ValuesLeft} {x : Listed} {c : TbsValue} → TookOctets listed_fields SpellsListed now x new → SaysListed (listed_fields x) c
    → TookOctets (λ (t : TbsValue). t) SpellsTbs now c new
tbs_took t s = record { text = t.text; goes = t.goes; is = listed_spelled t.is s }

-- Octets of a certificate's fields in front of the octets of one value are all of these.
all_of : {m : Mode} {octets : List ℕ} {c : TbsValue} {t : Tree} → Front m octets t [] → InFront (SpellsTbs m) octets c → SpellsTbs m octets c
all_of {m} {octets} {c} f p =
    let t = fields_tree p.is.is in
    let same = (one_tree t.tree _ (record { text = p.text; spelled = t.spelled; whole = p.whole }) f).1 in
    let whole : octets ≡ p.text = p.whole ∙ ap (λ (r : List ℕ). p.text ++ r) same ∙ append-nil p.text in
    subst (λ (o : List ℕ). SpellsTbs m o c) (sym whole) p.is

-- Signed data was read of these octets, and what is signed of the octets that were kept.
pub cert_took : {now new : ValuesLeft} {m : Mode} {s : SignedDataValue} {tbs : TbsValue} {c : CertValue}
    → m ≡ now.mode → c ≡ record { signed = signed_of s; tbs = tbs } → GivesAll (signed_content.reads now.mode) now (signed_fields s) new
    → TookOctets octet_fields AreSignedOctets now s new → InFront (SpellsTbs m) s.message.octets tbs → TookOctets (λ (x : CertValue). x) AreCertOctets now c new
cert_took {now} {s = s} {tbs} em ec g t p =
    let message = t.is in
    let front = subst (λ (z : Mode). InFront (SpellsTbs z) s.message.octets tbs) em p in
    let whole = all_of (front_all message.is.is.spelled) (subst (λ (z : List ℕ). InFront (SpellsTbs now.mode) z tbs) message.is.same front) in
    record {
      text = t.text;
      goes = t.goes;
      is = record {
        fields = ((s.message.octets, tbs), (s.signature.algorithm, (s.signature.bits, tt)));
        are = record {
          first = message.first;
          others = message.others;
          whole = message.whole;
          is = record { same = message.is.same; is = whole };
          rest = message.rest;
        };
        says = ec ∙ ap (in_mode s tbs) g.is.is.mode;
      };
    }
