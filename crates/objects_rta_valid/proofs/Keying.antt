-- Tables of keys, place by place.
use Rattle.std.proofs.Common.{◌≡◌, ◌⊎◌, ℕ, ◌+◌, ◌<◌, Bool, true, false, cond, List, [], ◌∷◌, ◌++◌, length, get_or, Option, Some, None, Bor, bytes_eq, inl, inr, refl, sym, ap, subst, ◌∙◌, arith}
use Rattle.std.proofs.lemmas.Bool.{both_ways, cases_eq}
use Rattle.std.proofs.lemmas.List.{get_or_append_left, length-append, length-map}
use Rattle.std.specs.Option.{option_map}
use Rattle.std.proofs.lemmas.Option.{same_Some, slice_get-get_or, slice_get-map}
use Rattle.std.proofs.lemmas.Slice.Eq.{bytes_eq-Decides}
use Rattle.std.proofs.Math.Seq.{get_or-append_seam}
use Rattle.objects_rta_valid.specs.Nodes.{each_octets}
use Rattle.objects_rta_valid.specs.Keyed.{Adds, IsKeyed, IsKeyedTo, IsLast, KeyAt, last_place}
use Rattle.objects_rta_valid.specs.declared.keyed.KeyPlaces.{KeyPlaces}

-- What a table of no keys tells.
pub keyed_none : (keys : List (List ℕ)) (table : KeyPlaces) → length table.before.items ≡ 0 → ((key : List ℕ) → last_place table key ≡ None) → IsKeyedTo keys 0 table
keyed_none keys table long none = record {
  long = long;
  last = λ key. subst (λ (o : Option ℕ). IsLast keys key 0 o) (sym (none key)) (λ place l at. absurd (omega arith));
  before = λ place key l at. absurd (omega arith);
}

last_more : (keys : List (List ℕ)) (key : List ℕ) (i : ℕ) (o : Option ℕ) → (KeyAt keys key i → ⊥) → IsLast keys key i o → IsLast keys key (i + 1) o
last_more keys key i None other h = λ place l at. elim (cases_eq place i) [
  | inl e ↦ other (subst (λ (n : ℕ). KeyAt keys key n) e at)
  | inr ne ↦ h place (omega arith) at
]
last_more keys key i (Some last) other h = (
  (let l : last < i = h.0 in omega arith),
  h.1,
  (λ place m l at. elim (cases_eq place i) [
    | inl e ↦ other (subst (λ (n : ℕ). KeyAt keys key n) e at)
    | inr ne ↦ h.2 place m (omega arith) at
  ]),
)

module _ (keys : List (List ℕ)) (i : ℕ) (key : List ℕ) (old new : KeyPlaces) (at : KeyAt keys key i) (a : Adds old new key i) (h : IsKeyedTo keys i old) where
  last_here : (k : List ℕ) (b : Bool) → bytes_eq key k ≡ b → IsLast keys k (i + 1) (cond b (Some i) (last_place old k))
  last_here k true e =
      let same : key ≡ k = (bytes_eq-Decides key k).0 e in
      (omega arith, subst (λ (x : List ℕ). KeyAt keys x i) same at, λ place m l found. absurd (omega arith))
  last_here k false e =
      last_more keys k i (last_place old k) (λ here. both_ways (bytes_eq key k) e ((bytes_eq-Decides key k).1 (same_Some key k (sym at ∙ here)))) (h.last k)

  before_here : (place : ℕ) (k : List ℕ) → place < i + 1 → KeyAt keys k place → (place ≡ i) ⊎ (place ≡ i → ⊥) → IsLast keys k place (get_or new.before.items place None)
  before_here place k l found (inl e) =
      let same : key ≡ k = same_Some key k (sym at ∙ subst (λ (n : ℕ). KeyAt keys k n) e found) in
      let here : get_or new.before.items place None ≡ last_place old key =
      ap (λ (xs : List (Option ℕ)). get_or xs place None) a.behind ∙ ap (λ (n : ℕ). get_or (old.before.items ++ last_place old key ∷ []) n None) (e ∙ sym h.long) ∙ get_or-append_seam old.before.items (last_place old key) [] None in
      subst (λ (n : ℕ). IsLast keys k n (get_or new.before.items place None)) (sym e)
      (subst (λ (o : Option ℕ). IsLast keys k i o) (sym here) (subst (λ (x : List ℕ). IsLast keys x i (last_place old key)) same (h.last key)))
  before_here place k l found (inr ne) =
      let size : length old.before.items ≡ i = h.long in
      let kept : get_or new.before.items place None ≡ get_or old.before.items place None =
      ap (λ (xs : List (Option ℕ)). get_or xs place None) a.behind ∙ get_or_append_left old.before.items (last_place old key ∷ []) None place (omega arith) in
      subst (λ (o : Option ℕ). IsLast keys k place o) (sym kept) (h.before place k (omega arith) found)

  pub keyed_more : IsKeyedTo keys (i + 1) new
  keyed_more = record {
    long = longer;
    last = λ k. subst (λ (o : Option ℕ). IsLast keys k (i + 1) o) (sym (a.told k)) (last_here k (bytes_eq key k) refl);
    before = λ place k l found. before_here place k l found (cases_eq place i);
  }
    where
      longer : length new.before.items ≡ i + 1
      longer =
          let size : length old.before.items ≡ i = h.long in
          let more = ap (λ (xs : List (Option ℕ)). length xs) a.behind ∙ length-append old.before.items (last_place old key ∷ []) in
          let one : length (last_place old key ∷ []) ≡ 1 = refl in
          omega (arith, more)

-- Keys that are lent, one by one.
pub lent_at : (keys : List (Bor (List ℕ))) (i : ℕ) (none : Bor (List ℕ)) → i < length keys → KeyAt (each_octets keys) (get_or keys i none).now i
lent_at keys i none l = slice_get-map (λ (o : Bor (List ℕ)). o.now) keys i ∙ ap (λ (o : Option (Bor (List ℕ))). option_map (λ (b : Bor (List ℕ)). b.now) o) (slice_get-get_or keys i none l)

pub keyed_all : (keys : List (Bor (List ℕ))) (i : ℕ) (table : KeyPlaces) → i ≡ length keys → IsKeyedTo (each_octets keys) i table → IsKeyed (each_octets keys) table
keyed_all keys i table e h = subst (λ (n : ℕ). IsKeyedTo (each_octets keys) n table) (e ∙ sym (length-map keys (λ (o : Bor (List ℕ)). o.now))) h
