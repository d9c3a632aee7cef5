-- Length octets by their first octet and those after it.
use Rattle.std.proofs.Common.{◌≡◌, ℕ, ◌-◌, ◌<◌, ◌≤◌, List, [], ◌∷◌, ◌++◌, length, get_or, take, drop, sym, ap, ◌∙◌, arith}
use Rattle.bcder_tree.specs.declared.mode.Mode.{Mode}
use Rattle.bcder_tree.specs.declared.mode.Mode.TheVariants.{Der}
use Rattle.bcder_tree.specs.declared.length.Length.{Length}
use Rattle.bcder_tree.specs.declared.length.Length.TheVariants.{Definite, Indefinite}
use Rattle.bcder_tree.specs.Octets.{IsLength}
use Rattle.bcder_tree.specs.Lengths.{SpellsLength}
use Rattle.bcder_tree.specs.Reads.{Lacks}
use Rattle.bcder_tree.proofs.Slices.{rest_is, first1}

-- Where no definite length is in front, and the first octet isn't `80`, there is no length.
pub no_length : (m : Mode) (s : List ℕ) → 1 ≤ length s → (get_or s 0 0 ≡ 128 → ⊥) → ((n : ℕ) → Lacks (λ text. IsLength m text n) (get_or s 0 0 ∷ take (length s - 1) (drop 1 s))) → (l : Length) → Lacks (SpellsLength m l) s
no_length m s one first none (Definite n) = record {
  none = λ text rest h e. (none n).none text rest h (ap (λ (z : List ℕ). get_or s 0 0 ∷ z) (rest_is 1 s) ∙ sym (first1 s one) ∙ e);
}
no_length m s one first none Indefinite = record {
  none = λ text rest h e. first (ap (λ (z : List ℕ). get_or z 0 0) (e ∙ ap (λ (z : List ℕ). z ++ rest) h));
}

-- How many octets the shortest spelling of a length takes.
pub record ShortestSize (n k : ℕ) : Type 0 where
  pub one : n < 128 → k ≡ 1
  pub two : 128 ≤ n → n < 256 → k ≡ 2
  pub three : 256 ≤ n → n < 65536 → k ≡ 3
  pub four : 65536 ≤ n → n < 16777216 → k ≡ 4
  pub five : 16777216 ≤ n → k ≡ 5

pub shortest_size : (text : List ℕ) (n : ℕ) → IsLength Der text n → ShortestSize n (length text)
shortest_size [] n h = absurd h
shortest_size (a ∷ []) n h = record { one = λ x. omega arith; two = λ x y. omega arith; three = λ x y. omega arith; four = λ x y. omega arith; five = λ x. omega arith }
shortest_size (a ∷ b ∷ []) n h = record { one = λ x. omega arith; two = λ x y. omega arith; three = λ x y. omega arith; four = λ x y. omega arith; five = λ x. omega arith }
shortest_size (a ∷ b ∷ c ∷ []) n h = record { one = λ x. omega arith; two = λ x y. omega arith; three = λ x y. omega arith; four = λ x y. omega arith; five = λ x. omega arith }
shortest_size (a ∷ b ∷ c ∷ d ∷ []) n h = record { one = λ x. omega arith; two = λ x y. omega arith; three = λ x y. omega arith; four = λ x y. omega arith; five = λ x. omega arith }
shortest_size (a ∷ b ∷ c ∷ d ∷ e ∷ []) n h = record { one = λ x. omega arith; two = λ x y. omega arith; three = λ x y. omega arith; four = λ x y. omega arith; five = λ x. omega arith }
shortest_size (a ∷ b ∷ c ∷ d ∷ e ∷ f ∷ _) n h = absurd h
