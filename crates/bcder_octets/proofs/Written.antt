-- What is written of a string is one (X.690 8.7, 9.2, 10.2).
use Rattle.std.proofs.Common.{◌≡◌, inl, inr, ℕ, ◌<◌, ◌≤◌, Bool, true, false, List, [], ◌∷◌, ◌++◌, length, take, drop, zero, suc, refl, sym, ap, ◌∙◌, subst, append-nil, length-drop, arith}
use Rattle.std.specs.Prelude.{nat_lt}
use Rattle.std.proofs.lemmas.Bool.{cases_lt, ltb-true, lt-ltb}
use Rattle.std.proofs.lemmas.List.{take-append-drop, length-take-le}
use Rattle.bcder_octets.specs.bcder_tree.declared.mode.Mode.{Mode}
use Rattle.bcder_octets.specs.bcder_tree.declared.mode.Mode.TheVariants.{Ber, Cer, Der}
use Rattle.bcder_octets.specs.bcder_tree.Tags.{TagValue}
use Rattle.bcder_octets.specs.bcder_tree.Tree.{Trees, primitive, constructed, none, more}
use Rattle.bcder_octets.specs.bcder_tree.Strings.{octet_string_tag, AreCerSegments}
use Rattle.bcder_octets.specs.bcder_primitive.Encoded.{joined, AreBoth}
use Rattle.bcder_values.specs.Lists.{AreAll}
use Rattle.bcder_octets.specs.Segments.{rows, segments, IsSegment, AreSegmentsOf, FormTrees, StringTrees}
use Rattle.bcder_octets.specs.Written.{WrittenString}

cons_segments : (a b octets : List ℕ) (second ts : Trees) → ts ≡ more (primitive octet_string_tag a) second → length a ≡ 1000 → AreCerSegments second b → octets ≡ a ++ b → AreCerSegments ts octets
cons_segments a b octets none ts e n s w = absurd s
cons_segments a b octets (more u us) ts e n s w = subst (λ (t : Trees). AreCerSegments t octets) (sym e) (a, b, refl, n, s, w)

-- The first of several values.
first_tree : {a : List ℕ} {Q : Trees → Type 0} {ts : Trees} → (x : AreBoth (IsSegment a) Q ts) → ts ≡ more (primitive octet_string_tag a) x.second
first_tree x =
    x.whole ∙ ap (λ (z : Trees). joined z x.second) x.is_first.whole ∙ ap (λ (c : List ℕ). more (primitive octet_string_tag c) x.second) x.is_first.is.same

rows_none : (n : ℕ) (ts : Trees) → AreAll IsSegment (rows n []) ts → ts ≡ none
unfolding rows
rows_none zero ts a = a
rows_none (suc n) ts a = a

rows_segments : (n : ℕ) (octets : List ℕ) (ts : Trees) → length octets ≤ n → 1 ≤ length octets → AreAll IsSegment (rows n octets) ts → AreCerSegments ts octets
unfolding rows
rows_segments zero octets ts p q a = absurd (omega arith)
rows_segments (suc n) [] ts p q a = absurd (omega arith)
rows_segments (suc n) (x ∷ v) ts p q a = elim (cases_lt 1000 (length (x ∷ v))) [
  | inl long ↦
      let behind : 1 ≤ length (drop 1000 (x ∷ v)) = omega (arith, length-drop 1000 (x ∷ v)) in
      let others = rows_segments n (drop 1000 (x ∷ v)) a.second (omega (arith, length-drop 1000 (x ∷ v))) behind a.is_second in
      cons_segments (take 1000 (x ∷ v)) (drop 1000 (x ∷ v)) (x ∷ v) a.second ts (first_tree a) (length-take-le 1000 (x ∷ v) (omega arith)) others (sym (take-append-drop 1000 (x ∷ v)))
  | inr short ↦
      let few : length (x ∷ v) ≤ 1000 = omega arith in
      let over : drop 1000 (x ∷ v) ≡ [] = none_behind (x ∷ v) few in
      let whole : take 1000 (x ∷ v) ≡ x ∷ v = sym (append-nil (take 1000 (x ∷ v))) ∙ ap (λ (z : List ℕ). take 1000 (x ∷ v) ++ z) (sym over) ∙ take-append-drop 1000 (x ∷ v) in
      let last : a.second ≡ none = rows_none n a.second (subst (λ (z : List ℕ). AreAll IsSegment (rows n z) a.second) over a.is_second) in
      let one : ts ≡ more (primitive octet_string_tag (x ∷ v)) none = first_tree a ∙ ap (λ (z : Trees). more (primitive octet_string_tag (take 1000 (x ∷ v))) z) last ∙ ap (λ (z : List ℕ). more (primitive octet_string_tag z) none) whole in
      subst (λ (t : Trees). AreCerSegments t (x ∷ v)) (sym one) (refl, q, few)
]
  where
    none_behind : (s : List ℕ) → length s ≤ 1000 → drop 1000 s ≡ []
    none_behind s h = empty (drop 1000 s) (omega (arith, length-drop 1000 s))
      where
        empty : (z : List ℕ) → length z ≤ 0 → z ≡ []
        empty [] k = refl
        empty (y ∷ z) k = absurd (omega arith)

cut_segments : (octets : List ℕ) (ts : Trees) → 1000 < length octets → AreSegmentsOf octets ts → AreCerSegments ts octets
unfolding segments
cut_segments octets ts long a = rows_segments (length octets) octets ts (omega arith) (omega arith) a

plain_string : {tag : TagValue} {octets : List ℕ} {ts : Trees} → FormTrees false tag octets ts → ts ≡ more (primitive tag octets) none
plain_string {tag} p = p.whole ∙ ap (λ (c : List ℕ). more (primitive tag c) none) p.is.same

pub written_string : (m : Mode) (tag : TagValue) (octets : List ℕ) (ts : Trees) → StringTrees m tag octets ts → WrittenString m tag octets ts
written_string Ber tag octets ts p = record { tree = primitive tag octets; alone = plain_string p; is = (refl, refl) }
written_string Der tag octets ts p = record { tree = primitive tag octets; alone = plain_string p; is = refl }
written_string Cer tag octets ts p = at (nat_lt 1000 (length octets)) refl p
  where
    at : (b : Bool) → nat_lt 1000 (length octets) ≡ b → FormTrees b tag octets ts → WrittenString Cer tag octets ts
    at false e q =
        let few : length octets ≤ 1000 = elim (cases_lt 1000 (length octets)) [
          | inl long ↦ let t : true ≡ false = sym (lt-ltb 1000 (length octets) long) ∙ e in absurd cc
          | inr short ↦ omega arith
        ] in
        record { tree = primitive tag octets; alone = plain_string q; is = (refl, refl, few) }
    at true e q =
        let long : 1000 < length octets = ltb-true 1000 (length octets) e in
        record { tree = constructed tag q.values; alone = q.whole; is = (refl, cut_segments octets q.values long q.is, long) }
