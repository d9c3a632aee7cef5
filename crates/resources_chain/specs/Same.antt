-- A test of whether two lists of runs are equal, for `==`.
use Rattle.std.specs.Prelude.{◌≡◌, ℕ, ◌==◌, ◌&&◌, ◌↔◌, Bool, true, false, IsTrue, List, [], ◌∷◌, refl}
use Rattle.std.proofs.Common.{ap, ◌∙◌, sym, eq-eqb}
use Rattle.std.proofs.lemmas.Bool.{eqb-true}
use Rattle.std.specs.Cmp.{IsEquivalence}
use Rattle.resources_chain.specs.Sets.{Run}

abbrev pub runs_eq : List Run → List Run → Bool
runs_eq [] [] = true
runs_eq [] (s ∷ ss) = false
runs_eq (r ∷ rs) [] = false
runs_eq (r ∷ rs) (s ∷ ss) = (r.first == s.first) && (r.last == s.last) && runs_eq rs ss

pub all_three : (a b c : Bool) → IsTrue (a && b && c) ↔ (IsTrue a × IsTrue b × IsTrue c)
all_three true true true = (λ t. (refl, refl, refl), λ t. refl)
all_three true true false = (λ t. absurd cc, λ t. absurd (let h : false ≡ true = t.2 in cc))
all_three true false c = (λ t. absurd cc, λ t. absurd (let h : false ≡ true = t.1 in cc))
all_three false b c = (λ t. absurd cc, λ t. absurd (let h : false ≡ true = t.0 in cc))

-- Runs of equal bounds are one.
pub run_is : {r s : Run} → r.first ≡ s.first → r.last ≡ s.last → r ≡ s
run_is {r} {s} f l =
    let one : r ≡ record { first = s.first; last = r.last } =
    ap (λ (x : ℕ). let t : Run = record { first = x; last = r.last } in t) f in
    let two : record { first = s.first; last = r.last } ≡ s =
    ap (λ (x : ℕ). let t : Run = record { first = s.first; last = x } in t) l in
    one ∙ two

-- The test decides equality.
pub runs_eq_tells : (a b : List Run) → IsTrue (runs_eq a b) ↔ (a ≡ b)
runs_eq_tells [] [] = (λ t. refl, λ e. refl)
runs_eq_tells [] (s ∷ ss) = (λ t. absurd cc, λ e. absurd cc)
runs_eq_tells (r ∷ rs) [] = (λ t. absurd cc, λ e. absurd cc)
runs_eq_tells (r ∷ rs) (s ∷ ss) =
    let three = all_three (r.first == s.first) (r.last == s.last) (runs_eq rs ss) in (
      λ t.
          let parts = three.0 t in
          let heads : r ≡ s =
          run_is (eqb-true r.first s.first parts.0) (eqb-true r.last s.last parts.1) in
          let tails : rs ≡ ss = (runs_eq_tells rs ss).0 parts.2 in
          cc,
      λ e.
          let heads : r ≡ s = cc in
          let tails : rs ≡ ss = cc in
          three.1 (
            eq-eqb r.first s.first (ap (λ (x : Run). x.first) heads),
            eq-eqb r.last s.last (ap (λ (x : Run). x.last) heads),
            (runs_eq_tells rs ss).1 tails,
          ),
    )

-- Tests that tell one thing give one answer.
pub one_answer : {P : Type 0} (a b : Bool) → (IsTrue a ↔ P) → (IsTrue b ↔ P) → a ≡ b
one_answer true true f g = refl
one_answer true false f g = let h : false ≡ true = g.1 (f.0 refl) in absurd cc
one_answer false true f g = let h : false ≡ true = f.1 (g.0 refl) in absurd cc
one_answer false false f g = refl

pub runs_eq_equiv : IsEquivalence runs_eq
runs_eq_equiv = record {
  refl = λ x. (runs_eq_tells x x).1 refl;
  symm = λ x y. one_answer {P = x ≡ y} (runs_eq x y) (runs_eq y x) (runs_eq_tells x y)
      (λ t. sym ((runs_eq_tells y x).0 t), λ e. (runs_eq_tells y x).1 (sym e));
  congr = λ x y z t.
      let e : x ≡ y = (runs_eq_tells x y).0 t in
      one_answer {P = x ≡ z} (runs_eq x z) (runs_eq y z) (runs_eq_tells x z)
      (λ h. e ∙ (runs_eq_tells y z).0 h, λ h. (runs_eq_tells y z).1 (sym e ∙ h));
}
