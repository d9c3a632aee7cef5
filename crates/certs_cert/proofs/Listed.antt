-- A certificate's fields are those with slots for the extensions, where the slots mean what it claims.
use Rattle.std.proofs.Common.{◌≡◌, List, refl, sym, ◌∙◌, subst}
use Rattle.certs_cert.specs.bcder_tree.declared.mode.Mode.{Mode}
use Rattle.certs_cert.specs.bcder_tree.Tags.{context, sequence_tag}
use Rattle.certs_cert.specs.bcder_tree.Tree.{Tree, Trees}
use Rattle.certs_cert.specs.bcder_content.Contents.{ValuesLeft}
use Rattle.certs_cert.specs.bcder_content.Exact.{Gives, Lacks}
use Rattle.certs_cert.specs.bcder_content.Grammar.{End, Inside, One, Then}
use Rattle.certs_cert.specs.bcder_content.Words.{Gathers}
use Rattle.certs_cert.proofs.of_bcder_content.Took.{one_took}
use Rattle.certs_cert.proofs.of_bcder_content.Unique.{end_one, inside_one, same_trees, same_values, then_one}
use Rattle.certs_extension.proofs.of_certs_basics.Values.{gathers_one}
use Rattle.certs_extension.proofs.Values.{extension_one}
use Rattle.certs_extension.specs.Cert.{TbsValue}
use Rattle.certs_extension.specs.CertText.{Fields, IsTbs, IsTbsBody}
use Rattle.certs_extension.specs.Extensions.{Extension, IsExtension}
use Rattle.certs_extension.specs.Finishing.{Finishes, claims_of}
use Rattle.certs_extension.specs.Slots.{AreSlots}
use Rattle.certs_extension.specs.declared.claims.finish.Claims.{Claims}
use Rattle.certs_extension.specs.declared.claims.slots.Slots.{Slots}
use Rattle.certs_extension.proofs.Whole.{extensions_there, slots_one, slots_there}
use Rattle.certs_cert.specs.Reading.{AreSlotted, IsListed, IsListedBody, ListedFields, SaysListed, slots_of}

-- The first value stays, and other values come after it.
with_rest : {A B C : Type 0} {Q : Tree → A → Type 0} {R : Trees → B → Type 0} {S : Trees → C → Type 0} {ts : Trees} {x : A × B} {y : C}
    → (h : Then Q R ts x) → S h.others y → Then Q S ts (x.0, y)
with_rest h r = record { first = h.first; others = h.others; whole = h.whole; is = h.is; rest = r }

-- The value for the extensions, which stands last.
abbrev pub IsList : {A : Type 0} → Mode → (List Extension → A → Type 0) → Tree → A × Unit {0} → Type 0
IsList m R = Inside (context 3) (Then (Inside sequence_tag (Gathers (IsExtension m) R)) End)

abbrev IsLast : {A : Type 0} → Mode → (List Extension → A → Type 0) → Trees → (A × Unit {0}) × Unit {0} → Type 0
IsLast m R = Then (IsList m R) End

abbrev pub the_list : List Extension → List Extension → Type 0
the_list all same = all ≡ same

-- The list that has the slots, in the value for the extensions.
pub record Lists (m : Mode) (t : Tree) (s : Slots) : Type 0 where
  pub all : List Extension
  pub is : IsList m the_list t (all, tt)
  pub says : AreSlots all s

pub slotted_list : {m : Mode} {t : Tree} {x : Slots × Unit {0}} → IsList m AreSlots t x → Lists m t x.0
slotted_list p =
    let k = p.is in
    let l = k.is.is in
    record {
      all = l.xs;
      is = record {
        values = p.values;
        whole = p.whole;
        is = record {
          first = k.first;
          others = k.others;
          whole = k.whole;
          is = record { values = k.is.values; whole = k.is.whole; is = record { xs = l.xs; are = l.are; says = refl } };
          rest = record { ended = k.rest.ended };
        };
      };
      says = l.says;
    }

-- What stands there stays in its place.
in_place : {A B C : Type 0} {Q : Tree → A → Type 0} {S : Tree → B → Type 0} {R : Trees → C → Type 0} {ts : Trees} {x : A × C} {y : B}
    → (h : Then Q R ts x) → S h.first y → Then S R ts (y, x.1)
in_place h s = record { first = h.first; others = h.others; whole = h.whole; is = s; rest = h.rest }

list_last : {m : Mode} {ts : Trees} {x : (List Extension × Unit {0}) × Unit {0}} {s : Slots} → IsLast m the_list ts x → AreSlots x.0.0 s
    → IsLast m AreSlots ts ((s, tt), tt)
list_last {s = s} p says =
    let k = p.is.is in
    let l = k.is.is in
    record {
      first = p.first;
      others = p.others;
      whole = p.whole;
      is = record {
        values = p.is.values;
        whole = p.is.whole;
        is = record {
          first = k.first;
          others = k.others;
          whole = k.whole;
          is = record {
            values = k.is.values;
            whole = k.is.whole;
            is = record { xs = l.xs; are = l.are; says = subst (λ (es : List Extension). AreSlots es s) (sym l.says) says };
          };
          rest = record { ended = k.rest.ended };
        };
      };
      rest = record { ended = p.rest.ended };
    }

-- From the fields with slots to the certificate's.
pub listed_tbs : {m : Mode} {t : Tree} {f : ListedFields} {c : TbsValue} → IsListed m t f → SaysListed f c → IsTbs m t c
listed_tbs {m} {t} {f} {c} p s =
    let a = p.is in
    let last = a.rest.rest.rest.rest.rest.rest.rest in
    let l = slotted_list last.is in
    let g : Fields = (f.0, (f.1.0, (f.1.1.0, (f.1.1.1.0, (f.1.1.1.1.0, (f.1.1.1.1.1.0, (f.1.1.1.1.1.1.0, ((l.all, tt), tt)))))))) in
    let body : IsTbsBody m p.values g =
    with_rest a (with_rest a.rest (with_rest a.rest.rest (with_rest a.rest.rest.rest (with_rest a.rest.rest.rest.rest
    (with_rest a.rest.rest.rest.rest.rest (with_rest a.rest.rest.rest.rest.rest.rest (in_place last l.is))))))) in
    record {
      fields = g;
      is = record { values = p.values; whole = p.whole; is = body };
      says = record {
        serial = s.serial;
        has_null = s.has_null;
        issuer = s.issuer;
        not_before = s.not_before;
        not_after = s.not_after;
        subject = s.subject;
        key = s.key;
        extensions = extensions_there l.all c (slots_of f) l.says s.claims;
      };
    }

-- The fields with slots, of a certificate's.
pub record HasListed (m : Mode) (t : Tree) (c : TbsValue) : Type 0 where
  pub fields : ListedFields
  pub is : IsListed m t fields
  pub claims : Finishes (slots_of fields) (claims_of c)

pub tbs_listed : {m : Mode} {t : Tree} {c : TbsValue} → IsTbs m t c → HasListed m t c
tbs_listed {m} {t} {c} p =
    let f = p.fields in
    let a = p.is.is in
    let there = slots_there f.1.1.1.1.1.1.1.0.0 c p.says.extensions in
    let g : ListedFields = (f.0, (f.1.0, (f.1.1.0, (f.1.1.1.0, (f.1.1.1.1.0, (f.1.1.1.1.1.0, (f.1.1.1.1.1.1.0, ((there.0, tt), tt)))))))) in
    let last = list_last a.rest.rest.rest.rest.rest.rest.rest there.1 in
    let body : IsListedBody m p.is.values g =
    with_rest a (with_rest a.rest (with_rest a.rest.rest (with_rest a.rest.rest.rest (with_rest a.rest.rest.rest.rest
    (with_rest a.rest.rest.rest.rest.rest (with_rest a.rest.rest.rest.rest.rest.rest last)))))) in
    record { fields = g; is = record { values = p.is.values; whole = p.is.whole; is = body }; claims = there.2 }

-- Values after the first are the same, where all are.
same_rest : {A B C D : Type 0} {Q : Tree → A → Type 0} {R : Trees → B → Type 0} {S : Tree → C → Type 0} {T : Trees → D → Type 0} {ts us : Trees}
    {x : A × B} {y : C × D} → ts ≡ us → (h : Then Q R ts x) → (k : Then S T us y) → h.others ≡ k.others
same_rest e h k = (same_trees (sym h.whole ∙ e ∙ k.whole)).1

last_one : {m : Mode} → One (Inside (context 3) (Then (Inside sequence_tag (Gathers (IsExtension m) AreSlots)) End))
last_one = inside_one (then_one (inside_one (gathers_one extension_one slots_one)) end_one)

-- One value has its slots in one way: the names in it, whose octets are kept, needn't be the same.
same_slots : {m : Mode} {t : Tree} {f g : ListedFields} → IsListed m t f → IsListed m t g → slots_of f ≡ slots_of g
same_slots {m} {t} {f} {g} p q =
    let a = p.is in
    let b = q.is in
    let e0 = same_values (sym p.whole ∙ q.whole) in
    let e1 = same_rest e0 a b in
    let e2 = same_rest e1 a.rest b.rest in
    let e3 = same_rest e2 a.rest.rest b.rest.rest in
    let e4 = same_rest e3 a.rest.rest.rest b.rest.rest.rest in
    let e5 = same_rest e4 a.rest.rest.rest.rest b.rest.rest.rest.rest in
    let e6 = same_rest e5 a.rest.rest.rest.rest.rest b.rest.rest.rest.rest.rest in
    let e7 = same_rest e6 a.rest.rest.rest.rest.rest.rest b.rest.rest.rest.rest.rest.rest in
    let h = a.rest.rest.rest.rest.rest.rest.rest in
    let k = b.rest.rest.rest.rest.rest.rest.rest in
    let first : h.first ≡ k.first = (same_trees (sym h.whole ∙ e7 ∙ k.whole)).0 in
    let x : Slots × Unit {0} = f.1.1.1.1.1.1.1.0 in
    let y : Slots × Unit {0} = g.1.1.1.1.1.1.1.0 in
    let same : x ≡ y = last_one.one k.first x y
    (subst (λ (u : Tree). Inside (context 3) (AreSlotted m) u x) first h.is) k.is in
    λ i. (same i).0

-- The fields were read, and their slots mean what the certificate claims.
pub tbs_gives : {m : Mode} {now new : ValuesLeft} {f : ListedFields} {c : TbsValue} → Gives (IsListed m) now f new → SaysListed f c
    → Gives (IsTbs m) now c new
tbs_gives g s = record { tree = g.tree; is = listed_tbs g.is s; took = g.took }

-- No such fields were next.
pub tbs_lacks : {m : Mode} {now : ValuesLeft} → Lacks (IsListed m) now → Lacks (IsTbs m) now
tbs_lacks l = record { none = λ t c p a. let h = tbs_listed p in l.none t h.fields h.is a }

-- The fields were read, and their slots mean nothing.
pub tbs_refused : {m : Mode} {now new : ValuesLeft} {f : ListedFields} → Gives (IsListed m) now f new → ((c : Claims) → Finishes (slots_of f) c → ⊥)
    → Lacks (IsTbs m) now
tbs_refused {m} {f = f} g refuses = record {
  none = λ t c p a.
      let h = tbs_listed p in
      let same = (one_took g.took a.1).0 in
      let read = subst (λ (u : Tree). IsListed m u f) same g.is in
      refuses (claims_of c) (subst (λ (s : Slots). Finishes s (claims_of c)) (same_slots h.is read) h.claims);
}
