-- The fields of a certificate are those of signed data whose message is of the grammar of what is signed.
use Rattle.std.proofs.Common.{◌≡◌, ℕ, List, [], ap, ◌∙◌, refl, subst, sym}
use Rattle.certs_cert.specs.bcder_tree.declared.mode.Mode.{Mode}
use Rattle.certs_cert.specs.bcder_tree.Front.{Front}
use Rattle.certs_cert.specs.bcder_tree.Tags.{sequence_tag}
use Rattle.certs_cert.specs.bcder_tree.Tree.{Spells, Tree, Trees}
use Rattle.certs_cert.specs.bcder_content.Contents.{ValuesLeft}
use Rattle.certs_cert.specs.bcder_content.Exact.{GivesAll, LacksAll}
use Rattle.certs_cert.specs.bcder_content.Grammar.{Inside}
use Rattle.certs_cert.specs.bcder_content.Kept.{CapturedValue}
use Rattle.certs_cert.proofs.of_bcder_content.Keeping.{front_all}
use Rattle.certs_cert.proofs.of_bcder_content.Unique.{same_trees}
use Rattle.certs_cert.proofs.of_bcder_content.Within.{AllWithin, all_gives, all_unfit}
use Rattle.certs_cert.proofs.of_bcder_tree.Trees.{one_tree}
use Rattle.certs_x509.specs.Signed.{SignedDataValue, signed_content, signed_fields}
use Rattle.certs_extension.specs.Cert.{CertValue, TbsValue}
use Rattle.certs_extension.specs.CertText.{IsCert, IsTbs}
use Rattle.certs_cert.specs.Whole.{AreCert, signed_of}

pub kept_octets : {lent kept : CapturedValue} {octets : List ℕ} → octets ≡ lent.octets → lent ≡ kept → octets ≡ kept.octets
kept_octets e d = e ∙ ap (λ (c : CapturedValue). c.octets) d

-- A certificate's fields are those of signed data.
pub cert_within : {m : Mode} → AllWithin (AreCert m) (signed_content.reads m)
cert_within {m} ts c p =
    let i = p.are in (
      ((record { mode = m; octets = p.fields.0.0 }, tt), p.fields.1),
      record {
        first = i.first;
        others = i.others;
        whole = i.whole;
        is = record { mode = refl; kept = record { spelled = i.is.spelled; is = record { any = tt } } };
        rest = i.rest;
      },
    )

-- What was decoded of the message, in the mode of the content.
record Message (m : Mode) (s : SignedDataValue) (tbs : TbsValue) : Type 0 where
  tree : Tree
  rest : List ℕ
  front : Front m s.message.octets tree rest
  is : IsTbs m tree tbs

-- The certificate of signed data in that mode.
abbrev pub in_mode : SignedDataValue → TbsValue → Mode → CertValue
in_mode s tbs m = record { signed = record (signed_of s) { mode = m }; tbs = tbs }

message_cert : {m : Mode} {s : SignedDataValue} {tbs : TbsValue} {c : CertValue} → Message m s tbs → c ≡ record { signed = signed_of s; tbs = tbs }
    → (ts : Trees) → signed_content.reads m ts (signed_fields s) → AreCert m ts c
message_cert {m} {s} {tbs} d ec ts i =
    let same = (one_tree d.tree i.first d.front (front_all i.is.kept.spelled)).0 in
    record {
      fields = ((s.message.octets, tbs), (s.signature.algorithm, (s.signature.bits, tt)));
      are = record {
        first = i.first;
        others = i.others;
        whole = i.whole;
        is = record { spelled = i.is.kept.spelled; is = subst (λ (t : Tree). IsTbs m t tbs) same d.is };
        rest = i.rest;
      };
      says = ec ∙ ap (in_mode s tbs) i.is.mode;
    }

pub cert_gives : {now new : ValuesLeft} {m : Mode} {s : SignedDataValue} {tbs : TbsValue} {c : CertValue}
    → m ≡ now.mode → c ≡ record { signed = signed_of s; tbs = tbs }
    → GivesAll (signed_content.reads now.mode) now (signed_fields s) new
    → (t : Tree) × (rest : List ℕ) × Front m s.message.octets t rest × IsTbs m t tbs → GivesAll (AreCert now.mode) now c new
cert_gives {now} {s = s} {tbs} em ec g d =
    let front = subst (λ (z : Mode). Front z s.message.octets d.0 d.1) em d.2 in
    let message : Message now.mode s tbs = record { tree = d.0; rest = d.1; front = front; is = subst (λ (z : Mode). IsTbs z d.0 tbs) em d.3 } in
    all_gives (AreCert now.mode) (signed_content.reads now.mode) (message_cert message ec) cert_within g

pub cert_refused : {now new : ValuesLeft} {m : Mode} {s : SignedDataValue}
    → m ≡ now.mode → GivesAll (signed_content.reads now.mode) now (signed_fields s) new
    → ((t : Tree) (x : TbsValue) (rest : List ℕ) → IsTbs m t x → Front m s.message.octets t rest → ⊥) → LacksAll (AreCert now.mode) now
cert_refused {now} {s = s} em g refuses =
    all_unfit (AreCert now.mode) (signed_content.reads now.mode) (λ ts z p q.
    let first = (same_trees (sym q.whole ∙ p.are.whole)).0 in
    let text : Spells now.mode p.are.first s.message.octets = subst (λ (u : Tree). Spells now.mode u s.message.octets) first q.is.kept.spelled in
    refuses p.are.first p.fields.0.1 [] (subst (λ (z : Mode). IsTbs z p.are.first p.fields.0.1) (sym em) p.are.is.is)
    (subst (λ (z : Mode). Front z s.message.octets p.are.first []) (sym em) (front_all text))) cert_within g

-- A SEQUENCE of the fields is a certificate, and a certificate is one.
pub sequence_cert : {m : Mode} (t : Tree) (c : CertValue) → Inside sequence_tag (AreCert m) t c → IsCert m t c
sequence_cert t c p = record { x = p.is.fields; is = record { values = p.values; whole = p.whole; is = p.is.are }; means = p.is.says }

pub cert_sequence : {m : Mode} (t : Tree) (c : CertValue) → IsCert m t c → Inside sequence_tag (AreCert m) t c
cert_sequence t c p = record { values = p.is.values; whole = p.is.whole; is = record { fields = p.x; are = p.is.is; says = p.means } }
