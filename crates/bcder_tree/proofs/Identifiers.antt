-- Identifiers with a number from 31 up, by their first octet and those after it.
use Rattle.std.proofs.Common.{◌≡◌, ℕ, ◌+◌, ◌-◌, ◌*◌, ◌<◌, ◌≤◌, Bool, List, [], ◌∷◌, ◌++◌, length, get_or, take, drop, refl, sym, ap, ◌∙◌, arith}
use Rattle.bcder_tree.specs.Tags.{TagValue}
use Rattle.bcder_tree.specs.Octets.{form_bit, IsHigh}
use Rattle.bcder_tree.specs.Reads.{Begins, Lacks, Identifies}
use Rattle.bcder_tree.proofs.Unique.{first_octet, high_above}
use Rattle.bcder_tree.proofs.Slices.{rest_is, first1}

pub short_found : (s : List ℕ) (q : Bool) (t : TagValue) → 1 ≤ length s → get_or s 0 0 ≡ t.class * 64 + form_bit q + t.number → t.number < 31 → t.class < 4 → 0 < t.class + t.number → Begins (Identifies q t) s 1
short_found s q t one first low small some = record { text = get_or s 0 0 ∷ []; rest = drop 1 s; is = ((small, some), (first, low)); whole = first1 s one; long = refl }

pub long_found : (s : List ℕ) (count : ℕ) (q : Bool) (n : ℕ) (t : TagValue) → 1 ≤ length s → get_or s 0 0 ≡ t.class * 64 + form_bit q + 31 → t.class < 4 → t.number ≡ n → Begins (λ text. IsHigh text n) (take (length s - 1) (drop 1 s)) count → Begins (Identifies q t) s (count + 1)
long_found s count q n t one first small number h =
    let w : s ≡ (get_or s 0 0 ∷ []) ++ (h.text ++ h.rest) = first1 s one ∙ ap (λ (z : List ℕ). get_or s 0 0 ∷ z) (sym (rest_is 1 s) ∙ h.whole) in
    record {
      text = get_or s 0 0 ∷ h.text;
      rest = h.rest;
      is = identified h.text (rw number h.is);
      whole = w;
      long = omega (arith, h.long);
    }
  where
    identified : (i : List ℕ) → IsHigh i t.number → Identifies q t (get_or s 0 0 ∷ i)
    identified [] h = absurd h
    identified (b ∷ i) h = let high : 31 ≤ t.number = high_above (b ∷ i) t.number h in ((small, omega arith), (first, h))

pub none_found : (s : List ℕ) (c : ℕ) (q : Bool) → get_or s 0 0 ≡ c * 64 + form_bit q + 31 → ((n : ℕ) → Lacks (λ text. IsHigh text n) (take (length s - 1) (drop 1 s))) → (k : Bool) (t : TagValue) → Lacks (Identifies k t) s
none_found s c q first none k t = record { none = λ text rest h e. at text rest h e }
  where
    at : (text rest : List ℕ) → Identifies k t text → s ≡ text ++ rest → ⊥
    at [] rest h e = absurd h.1
    at (a ∷ []) rest h e =
        let head : get_or s 0 0 ≡ a = ap (λ (z : List ℕ). get_or z 0 0) e in
        let f = first_octet t.class c t.number 31 k q (omega arith) (omega arith) (sym h.1.0 ∙ sym head ∙ first) in
        let n : t.number ≡ 31 = f.2 in omega arith
    at (a ∷ b ∷ i) rest h e = (none t.number).none (b ∷ i) rest h.1.1 (rest_is 1 s ∙ ap (λ (z : List ℕ). drop 1 z) e)
