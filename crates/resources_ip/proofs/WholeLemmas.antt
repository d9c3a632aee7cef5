-- Whole IPv4 addresses.
use Rattle.std.proofs.Common.{◌≡◌, ℕ, ◌+◌, ◌-◌, ◌/◌, ◌%◌, ◌^◌, ◌↔◌, inl, inr, List, [], ◌∷◌, ◌++◌, sym, subst, arith, le_refl}
use Rattle.std.proofs.lemmas.Bool.Decides.{leb_tells}
use Rattle.resources_ip.specs.resources_chain.Sets.{Run, InRun, InRuns, IsRunsOf, AreMaximal}
use Rattle.resources_ip.proofs.of_resources_chain.SetLemmas.{in_append, past_gap}
use Rattle.resources_ip.specs.resources_ip_prefix.Whole.{IsWhole}
use Rattle.resources_ip_block.specs.declared.block.IpBlock.{IpBlock}
use Rattle.resources_ip_block.specs.Block.{run_of_block, block_within}
use Rattle.resources_ip.specs.WholeSets.{AreWhole}

-- Whole runs have all numbers or none that begin with the same 32 bits.
pub whole_run : (r : Run) → IsWhole r → (n m : ℕ) → n / 2 ^ 96 ≡ m / 2 ^ 96 → InRun r n → InRun r m
whole_run r w n m e h = (omega (arith, w.0, h.0, e), omega (arith, w.1, h.1, e))

-- One whole run more.
pub whole_push : (runs : List Run) (r : Run) → AreWhole runs → IsWhole r → AreWhole (runs ++ r ∷ [])
whole_push runs r all one n m e h =
    elim ((in_append runs (r ∷ []) n).0 h) [
      | inl x ↦ (in_append runs (r ∷ []) m).1 (inl (all n m e x))
      | inr y ↦ (in_append runs (r ∷ []) m).1 (inr (elim y [ inl z ↦ inl (whole_run r one n m e z) | inr z ↦ absurd z ]))
    ]

pub whole_set : (runs set : List Run) → AreWhole runs → IsRunsOf (InRuns runs) set → AreWhole set
whole_set runs set all is n m e h = (is.same m).1 (all n m e ((is.same n).0 h))

pub whole_none : (set : List Run) → IsRunsOf (λ n. ⊥) set → AreWhole set
whole_none set is n m e h = absurd ((is.same n).0 h)

-- A block has addresses, and so has a set of it and others.
pub some_pushed : (runs : List Run) (b : IpBlock) → (n : ℕ) × InRuns (runs ++ run_of_block b ∷ []) n
some_pushed runs b = ((run_of_block b).first, (in_append runs (run_of_block b ∷ []) (run_of_block b).first).1 (inr (inl (le_refl _, (block_within b).0))))

pub some_set : (runs set : List Run) → IsRunsOf (InRuns runs) set → (n : ℕ) × InRuns runs n → ((n : ℕ) → ¬ (InRuns set n)) → ⊥
some_set runs set is some none = none some.0 ((is.same some.0).1 some.1)

starts_whole : (r : Run) (runs : List Run) → AreMaximal (r ∷ runs) → AreWhole (r ∷ runs) → r.first % 2 ^ 96 ≡ 0
starts_whole r runs maximal whole =
    elim (leb_tells (r.first % 2 ^ 96) 0) [
      | inl le ↦ omega (arith, le.1)
      | inr lt ↦ absurd (elim (whole r.first (r.first - 1) (omega (arith, lt.1)) (inl (omega arith, maximal.0))) [
        | inl h ↦ omega (arith, h.0, lt.1)
        | inr h ↦ omega (arith, past_gap r.last runs (r.first - 1) maximal.1 h, maximal.0)
      ])
    ]

ends_whole : (r : Run) (runs : List Run) → AreMaximal (r ∷ runs) → AreWhole (r ∷ runs) → r.last % 2 ^ 96 ≡ 2 ^ 96 - 1
ends_whole r runs maximal whole =
    elim (leb_tells (2 ^ 96 - 1) (r.last % 2 ^ 96)) [
      | inl le ↦ omega (arith, le.1)
      | inr lt ↦ absurd (elim (whole r.last (r.last + 1) (omega (arith, lt.1)) (inl (maximal.0, omega arith))) [
        | inl h ↦ omega (arith, h.1)
        | inr h ↦ omega (arith, past_gap r.last runs (r.last + 1) maximal.1 h)
      ])
    ]

-- A set is over whole addresses exactly where its first run and the set of the others are.
pub whole_step : (r : Run) (runs : List Run) → AreMaximal (r ∷ runs) → AreWhole (r ∷ runs) ↔ (IsWhole r × AreWhole runs)
whole_step r runs maximal = (
  λ whole.
      let one : IsWhole r = (starts_whole r runs maximal whole, ends_whole r runs maximal whole) in (
        one,
        λ n m e h. elim (whole n m e (inr h)) [
          | inl x ↦ absurd (let y = whole_run r one m n (sym e) x in omega (arith, past_gap r.last runs n maximal.1 h, y.1))
          | inr x ↦ x
        ],
      ),
  λ parts n m e h. elim h [ inl x ↦ inl (whole_run r parts.0 n m e x) | inr x ↦ inr (parts.1 n m e x) ],
)

-- The first run of a list of whole runs is whole.
pub whole_first : (left : List Run) (r : Run) (rest : List Run) → left ≡ r ∷ rest → AreMaximal left → AreWhole left → IsWhole r
whole_first left r rest e maximal whole = ((whole_step r rest (subst (λ (l : List Run). AreMaximal l) e maximal)).0 (subst (λ (l : List Run). AreWhole l) e whole)).0

pub whole_rest : (left : List Run) (r : Run) (rest : List Run) → left ≡ r ∷ rest → AreMaximal left → IsWhole r → AreMaximal rest × (AreWhole left ↔ AreWhole rest)
whole_rest left r rest e maximal one =
    let m : AreMaximal (r ∷ rest) = subst (λ (l : List Run). AreMaximal l) e maximal in
    let step = whole_step r rest m in
    (m.2, (λ w. (step.0 (subst (λ (l : List Run). AreWhole l) e w)).1, λ w. subst (λ (l : List Run). AreWhole l) (sym e) (step.1 (one, w))))
