-- One attribute by its identifier and its value, and what it says.
use Rattle.std.proofs.Common.{◌≡◌, ℕ, Bool, List, Result, Err, refl, sym, ap, ◌∙◌, subst}
use Rattle.objects_cms.specs.bcder_tree.declared.mode.Mode.{Mode}
use Rattle.objects_cms.specs.bcder_tree.Tags.{sequence_tag, set_tag}
use Rattle.objects_cms.specs.bcder_tree.Tree.{Tree, Trees}
use Rattle.objects_cms.specs.bcder_content.Grammar.{End, Inside, Tagged, Then}
use Rattle.objects_cms.specs.bcder_content.Words.{Itself, ThenBy}
use Rattle.objects_cms.specs.bcder_content.Contents.{ValuesLeft, Whole}
use Rattle.objects_cms.specs.bcder_content.Exact.{Gives, Lacks, ReadsAs}
use Rattle.objects_cms.specs.bcder_content.InMode.{ReadsFields}
use Rattle.objects_cms.specs.bcder_source.declared.error.DecodeError.{DecodeError}
use Rattle.objects_cms.proofs.of_bcder_content.InMode.{Fields}
use Rattle.objects_cms.proofs.of_bcder_content.Modes.{lacks_in}
use Rattle.objects_cms.proofs.of_bcder_content.Taking.{on_content}
use Rattle.objects_cms.proofs.of_bcder_content.Took.{whole_first}
use Rattle.objects_cms.proofs.of_bcder_content.Unique.{as_tagged, inside_tagged}
use Rattle.objects_payload.specs.Identifiers as id
use Rattle.objects_payload.specs.SignedAttributes.{Attribute, IsAttribute}
use Rattle.objects_cms.specs.declared.attributes.kinds.Kind.{Kind}
use Rattle.objects_cms.specs.declared.attributes.kinds.Kind.TheVariants as kinds
use Rattle.objects_cms.specs.declared.attributes.said.Said.{Said}
use Rattle.objects_cms.specs.declared.attributes.said.Said.TheVariants.{ContentType, MessageDigest, SigningTime, BinarySigningTime}
use Rattle.objects_cms.specs.Said.{IsSaid, IsValueOf, kind_of, octets_of}

pub said_tagged : (m : Mode) → Tagged sequence_tag (IsSaid m)
said_tagged m = as_tagged (inside_tagged _ _)

-- The field that says what follows is none that it can be.
pub unfit_by : {A B C D E : Type 0} {P : Mode → Trees → A → Type 0} {Q : Mode → Tree → B → Type 0} {R : Mode → B → Trees → C → Type 0}
    {k : B × C → A} {start now : ValuesLeft} {some : Bool} {f : D → A} {new : ValuesLeft} {e : DecodeError E}
    → Fields P (λ m. ThenBy (Q m) (R m)) k start now some → Lacks (Q now.mode) now → ReadsFields f P start (Err e) new
unfit_by {Q = Q} {now = now} {e = e} s h = record {
  reads = on_content e (s.so_far.lacks (record { none = λ ts y p w. (lacks_in Q s.mode h).none p.first y.0 p.is (whole_first (subst (Whole now) p.whole w)) }));
}

-- What an attribute says by its kind.
pub record Says (m : Mode) (a : Attribute) (s : Said) : Type 0 where
  pub kind : Kind
  pub named : a.kind ≡ octets_of kind
  pub is : IsValueOf m kind a.value s

-- Identifiers tell kinds.
pub same_kind : (k l : Kind) → octets_of k ≡ octets_of l → k ≡ l
same_kind kinds.ContentType kinds.ContentType e = refl
same_kind kinds.ContentType kinds.MessageDigest e = absurd cc
same_kind kinds.ContentType kinds.SigningTime e = absurd cc
same_kind kinds.ContentType kinds.BinarySigningTime e = absurd cc
same_kind kinds.MessageDigest kinds.ContentType e = absurd cc
same_kind kinds.MessageDigest kinds.MessageDigest e = refl
same_kind kinds.MessageDigest kinds.SigningTime e = absurd cc
same_kind kinds.MessageDigest kinds.BinarySigningTime e = absurd cc
same_kind kinds.SigningTime kinds.ContentType e = absurd cc
same_kind kinds.SigningTime kinds.MessageDigest e = absurd cc
same_kind kinds.SigningTime kinds.SigningTime e = refl
same_kind kinds.SigningTime kinds.BinarySigningTime e = absurd cc
same_kind kinds.BinarySigningTime kinds.ContentType e = absurd cc
same_kind kinds.BinarySigningTime kinds.MessageDigest e = absurd cc
same_kind kinds.BinarySigningTime kinds.SigningTime e = absurd cc
same_kind kinds.BinarySigningTime kinds.BinarySigningTime e = refl

-- No other kind has an identifier than these.
pub no_kind : (octets : List ℕ) → (octets ≡ id.content_type → ⊥) → (octets ≡ id.message_digest → ⊥) → (octets ≡ id.signing_time → ⊥) → (octets ≡ id.binary_signing_time → ⊥) → (k : Kind) → octets ≡ octets_of k → ⊥
no_kind octets a b c d kinds.ContentType e = a e
no_kind octets a b c d kinds.MessageDigest e = b e
no_kind octets a b c d kinds.SigningTime e = c e
no_kind octets a b c d kinds.BinarySigningTime e = d e

-- A value of a kind says something of that kind.
pub kind_is : (m : Mode) (k : Kind) (t : Tree) (s : Said) → IsValueOf m k t s → kind_of s ≡ k
kind_is m kinds.ContentType t s p = ap kind_of p.means
kind_is m kinds.MessageDigest t s p = ap kind_of p.means
kind_is m kinds.SigningTime t s p = ap kind_of p.means
kind_is m kinds.BinarySigningTime t s p = ap kind_of p.means

-- A set of one value, and nothing behind it: of another grammar, where that value is of one.
set_of_one : {A B : Type 0} {Q : Tree → A → Type 0} (R : Tree → B → Type 0) {ts : Trees} {x : (A × Unit {0}) × Unit {0}} {y : B}
    → (p : Then (Inside set_tag (Then Q End)) End ts x) → R p.is.is.first y → Then (Inside set_tag (Then R End)) End ts ((y, tt), tt)
set_of_one R p r =
    let set = p.is in
    record {
      first = p.first;
      others = p.others;
      whole = p.whole;
      is = record { values = set.values; whole = set.whole; is = record { first = set.is.first; others = set.is.others; whole = set.is.whole; is = r; rest = set.is.rest } };
      rest = p.rest;
    }

-- The attribute that said something.
pub record Found (m : Mode) (t : Tree) (s : Said) : Type 0 where
  pub attribute : Attribute
  pub is : IsAttribute t attribute
  pub says : Says m attribute s

pub said_from : {m : Mode} {t : Tree} {s : Said} → IsSaid m t s → Found m t s
said_from {m} {t} {s} p =
    let body = p.is in
    let oid = body.is.is in
    let value = body.is.rest.is.is in
    record {
      attribute = record { kind = oid.x; value = value.first };
      is = record {
        x = (oid.x, ((value.first, tt), tt));
        is = record {
          values = body.values;
          whole = body.whole;
          is = record {
            first = body.is.first;
            others = body.is.others;
            whole = body.is.whole;
            is = oid.is;
            rest = set_of_one Itself body.is.rest (record { same = refl });
          };
        };
        means = refl;
      };
      says = record {
        kind = p.x.0;
        named = oid.means;
        is = subst (λ (z : Said). IsValueOf m p.x.0 value.first z) (sym p.means) value.is;
      };
    }

pub said_to : {m : Mode} {t : Tree} {a : Attribute} {s : Said} → IsAttribute t a → Says m a s → IsSaid m t s
said_to {m} {t} {a} {s} p q =
    let body = p.is in
    let value = body.is.rest.is.is in
    let octets : a.kind ≡ p.x.0 = ap (λ (z : Attribute). z.kind) p.means in
    let tree : a.value ≡ value.first = ap (λ (z : Attribute). z.value) p.means ∙ sym value.is.same in
    record {
      x = (q.kind, ((s, tt), tt));
      is = record {
        values = body.values;
        whole = body.whole;
        is = record {
          first = body.is.first;
          others = body.is.others;
          whole = body.is.whole;
          is = record { x = p.x.0; is = body.is.is; means = sym octets ∙ q.named };
          rest = set_of_one (IsValueOf m q.kind) body.is.rest (subst (λ (u : Tree). IsValueOf m q.kind u s) tree q.is);
        };
      };
      means = refl;
    }

-- A reader of values of that kind.
pub value_gives : (m : Mode) {k : Kind} {v w : ValuesLeft} {s : Said} (l : Kind) → k ≡ l → Gives (IsValueOf m l) v s w → Gives (IsValueOf m k) v s w
value_gives m {v = v} {w} {s} l e h = subst (λ (x : Kind). Gives (IsValueOf m x) v s w) (sym e) h

pub value_stops : {E : Type 0} (m : Mode) {k : Kind} (v w : ValuesLeft) (r : Result Said (DecodeError E)) (l : Kind) → k ≡ l → ReadsAs (λ s. s) (IsValueOf m l) v r w → ReadsAs (λ s. s) (IsValueOf m k) v r w
value_stops m v w r l e h = subst (λ (x : Kind). ReadsAs (λ s. s) (IsValueOf m x) v r w) (sym e) h
