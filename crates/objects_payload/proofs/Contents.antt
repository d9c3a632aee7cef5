-- Providers whose octets are kept, and the fields of an attestation.
use Rattle.std.proofs.Common.{◌≡◌, ℕ, ◌≤◌, List, length, Result, Ok, Err, refl, sym, subst}
use Rattle.std.proofs.Math.Logic.{∥∥₁_elim}
use Rattle.std.specs.Coded.{Coded-set, coded_list, coded_ℕ}
use Rattle.objects_payload.specs.bcder_tree.declared.mode.Mode.{Mode}
use Rattle.objects_payload.specs.bcder_tree.declared.mode.Mode.TheVariants.{Der}
use Rattle.objects_payload.specs.bcder_tree.Front.{Front}
use Rattle.objects_payload.specs.bcder_tree.Tags.{sequence_tag}
use Rattle.objects_payload.specs.bcder_tree.Tree.{SpellsAll, Tree, Trees}
use Rattle.objects_payload.specs.bcder_source.declared.error.DecodeError.{DecodeError}
use Rattle.objects_payload.specs.bcder_source.Views.{Reading}
use Rattle.objects_payload.specs.bcder_content.declared.constructed.Constructed.{Constructed}
use Rattle.objects_payload.specs.bcder_content.Captures.{rest_of, Captures, CapturesCases}
use Rattle.objects_payload.specs.bcder_content.Contents.{ValuesLeft}
use Rattle.objects_payload.specs.bcder_content.Exact.{DecodesAs, Gives, GivesAll, Lacks, LacksAll, ReadsAs}
use Rattle.objects_payload.specs.bcder_content.InMode.{ReadsFields}
use Rattle.objects_payload.specs.bcder_content.Grammar.{End, ExactlyAll, Inside, Then}
use Rattle.objects_payload.specs.bcder_content.Words.{Gathers}
use Rattle.objects_payload.specs.bcder_content.Kept.{CapturedValue}
use Rattle.objects_payload.specs.bcder_content.ClosureReads.{Reader}
use Rattle.objects_payload.specs.resources_asn.Encodings.{IsAsId}
use Rattle.objects_payload.proofs.of_bcder_content.Inside.{ReadsEach}
use Rattle.objects_payload.proofs.of_bcder_content.Kept.{exact_capture}
use Rattle.objects_payload.proofs.of_bcder_content.Taking.{weaker}
use Rattle.objects_payload.specs.Aspas.{Aspa, IsAspa, IsLawful, aspa_of}
use Rattle.objects_payload.specs.bcder_content.Texts.{ReadsFront}
use Rattle.objects_payload.specs.Decoded.{DecodesFront}
use Rattle.objects_payload.specs.Fields.{AreAllProviders, AreFields, AreProviders, fields_of, whichever_lawful}
use Rattle.objects_payload.specs.Listing.{one_list}
use Rattle.objects_payload.specs.Spelled.{SpellsAsIds}

-- Octets that are no providers of the customer are none of any list.
pub all_lack : {v : ValuesLeft} (customer : ℕ) → LacksAll (ExactlyAll v.mode (Gathers IsAsId (whichever_lawful customer))) v → LacksAll (AreProviders customer) v
all_lack customer l = record {
  none = λ ts xs p w. l.none ts w.took.text (record { x = tt; is = record { xs = xs; are = p.are; says = p.lawful }; spelled = w.took.spelled }) w;
}

-- Octets that were captured are of a list of providers, which was read.
pub record Captured (customer : ℕ) (v : ValuesLeft) (c : CapturedValue) (new : ValuesLeft) : Type 0 where
  pub providers : List ℕ
  pub spelled : SpellsAsIds c providers
  pub gives : GivesAll (AreProviders customer) v providers new

captured_cases : {F D : Type 0} (E : Type 0) {g : Reader F (Constructed Reading) (Unit {0}) D} {op : F} (customer : ℕ) (v : ValuesLeft) (c : CapturedValue) (new : ValuesLeft)
    → CapturesCases {E = E} g op v (Ok c) new → GivesAll (ExactlyAll v.mode (Gathers IsAsId (whichever_lawful customer))) v c.octets new → Captured customer v c new
captured_cases E customer v c new k h = record {
  providers = h.is.is.xs;
  spelled = record { trees = h.trees; is = h.is.is.are; spelled = subst (λ (m : Mode). SpellsAll m h.trees c.octets) (sym k.mode) h.is.spelled };
  gives = record { trees = h.trees; took = h.took; is = record { are = h.is.is.are; lawful = h.is.is.says }; only = λ goes_on. all_lack customer (h.only goes_on) };
}

pub captured_list : {F D E : Type 0} {g : Reader F (Constructed Reading) (Unit {0}) D} {op : F} (customer : ℕ) {v : ValuesLeft} {c : CapturedValue} {new : ValuesLeft}
    → ReadsEach v.mode rest_of g op (λ x. x) (Gathers IsAsId (whichever_lawful customer)) → Captures {E = E} g op v (Ok c) new → Captured customer v c new
captured_list {E = E} customer {v} {c} {new} each h = captured_cases E customer v c new h.cases (exact_capture each h)

-- The list of octets is the one that they spell.
pub listing_is : (c : CapturedValue) (l xs : List ℕ) → ∥ SpellsAsIds c l ∥₁ → SpellsAsIds c xs → l ≡ xs
listing_is c l xs h s = ∥∥₁_elim h (Coded-set (coded_list coded_ℕ) _ _) (λ p. one_list c l xs p s)

pub same_listing : (c d : CapturedValue) (l xs : List ℕ) → c ≡ d → ∥ SpellsAsIds c l ∥₁ → ∥ SpellsAsIds d xs ∥₁ → l ≡ xs
same_listing c d l xs e h k =
    ∥∥₁_elim k (Coded-set (coded_list coded_ℕ) _ _) (λ q. listing_is d l xs (subst (λ (z : CapturedValue). ∥ SpellsAsIds z l ∥₁) e h) q)

pub captured_reads : {v new : ValuesLeft} {c : CapturedValue} (E : Type 0) (customer : ℕ) (l : List ℕ) → ∥ SpellsAsIds c l ∥₁ → Captured customer v c new
    → ReadsFields {E = E} (λ l. l) (AreAllProviders customer) v (Ok l) new
captured_reads {v} {new} {c} E customer l x h = record {
  reads = subst (λ (k : List ℕ). GivesAll (AreProviders customer) v k new) (sym (listing_is c l h.providers x h.spelled)) h.gives;
}

pub captured_few : {v new : ValuesLeft} {c : CapturedValue} (customer : ℕ) (l : List ℕ) → ∥ SpellsAsIds c l ∥₁ → Captured customer v c new → length l ≤ 10000
captured_few {c = c} customer l x h = subst (λ (k : List ℕ). length k ≤ 10000) (sym (listing_is c l h.providers x h.spelled)) h.gives.is.lawful.few

-- The fields are those of an attestation, and the other way round.

list_as : {P R : Trees → List ℕ → Type 0} {ts : Trees} {x : List ℕ × Unit {0}} → ((us : Trees) → P us x.0 → R us x.0) → Then (Inside sequence_tag P) End ts x → Then (Inside sequence_tag R) End ts x
list_as means p = record {
  first = p.first;
  others = p.others;
  whole = p.whole;
  is = record { values = p.is.values; whole = p.is.whole; is = means p.is.values p.is.is };
  rest = p.rest;
}

is_aspa : (m : Mode) (t : Tree) (a : Aspa) → Inside sequence_tag (AreFields m) t (fields_of a) → IsAspa t a
is_aspa m t a p =
    let behind = p.is.rest in
    record {
      is = record {
        x = fields_of a;
        is = record {
          values = p.values;
          whole = p.whole;
          is = record {
            first = p.is.first;
            others = p.is.others;
            whole = p.is.whole;
            is = p.is.is;
            rest = record {
              first = behind.first;
              others = behind.others;
              whole = behind.whole;
              is = behind.is;
              rest = list_as (λ us q. q.are) behind.rest;
            };
          };
        };
        means = refl;
      };
      meets = behind.rest.is.is.lawful;
    }

are_fields : (m : Mode) (t : Tree) (a : Aspa) → IsAspa t a → Inside sequence_tag (AreFields m) t (fields_of a)
are_fields m t a p = subst (λ (b : Aspa). IsLawful b → Inside sequence_tag (AreFields m) t (fields_of b)) (sym p.is.means) at p.meets
  where
    at : IsLawful (aspa_of p.is.x) → Inside sequence_tag (AreFields m) t (fields_of (aspa_of p.is.x))
    at lawful =
        let q = p.is.is in
        let behind = q.is.rest in
        record {
          values = q.values;
          whole = q.whole;
          is = record {
            first = q.is.first;
            others = q.is.others;
            whole = q.is.whole;
            is = q.is.is;
            rest = record {
              first = behind.first;
              others = behind.others;
              whole = behind.whole;
              is = behind.is;
              rest = list_as (λ us p. record { are = p; lawful = lawful }) behind.rest;
            };
          };
        }

aspa_gives : {v w : ValuesLeft} {a : Aspa} → Gives (Inside sequence_tag (AreFields v.mode)) v (fields_of a) w → Gives IsAspa v a w
aspa_gives {v} {a = a} g = record { tree = g.tree; is = is_aspa v.mode g.tree a g.is; took = g.took }

aspa_lacks : {v : ValuesLeft} → Lacks (Inside sequence_tag (AreFields v.mode)) v → Lacks IsAspa v
aspa_lacks {v} l = record { none = λ t a p ahead. l.none t (fields_of a) (are_fields v.mode t a p) ahead }

-- A reader of the fields is one of the attestation.
pub aspa_reads : {E : Type 0} (v w : ValuesLeft) (r : Result Aspa (DecodeError E)) → ReadsAs fields_of (Inside sequence_tag (AreFields v.mode)) v r w → ReadsAs (λ a. a) IsAspa v r w
aspa_reads v w (Ok a) g = aspa_gives g
aspa_reads v w (Err e) l = weaker e aspa_lacks l

-- A reader of the value in front of octets, in the words of the octets.
pub decodes_front : {E : Type 0} (octets : List ℕ) (r : Result Aspa (DecodeError E)) → DecodesAs (λ a. a) Der IsAspa octets r → DecodesFront IsAspa octets r
decodes_front octets (Ok a) h = record { text = h.2.text; rest = h.1; whole = h.2.whole; is = record { tree = h.0; is = h.3; spelled = h.2.spelled } }
decodes_front octets (Err e) h = weaker e at h
  where
    at : ((t : Tree) (x : Aspa) (rest : List ℕ) → IsAspa t x → Front Der octets t rest → ⊥) → (x : Aspa) → ReadsFront IsAspa octets x → ⊥
    at none x p = none p.is.tree x p.rest p.is.is (record { text = p.text; spelled = p.is.spelled; whole = p.whole })
