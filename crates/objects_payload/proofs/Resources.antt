-- A customer's AS number, as resources.
use Rattle.std.proofs.Common.{◌≡◌, ℕ, List, [], ◌∷◌, ◌++◌, inl, inr, ap, ◌∙◌, subst, arith}
use Rattle.objects_payload.specs.resources_chain.Sets.{Run, InRuns, IsRunsOf}
use Rattle.objects_payload.specs.resources_chain.declared.choice.ResourcesChoice.{ResourcesChoice}
use Rattle.objects_payload.specs.resources_chain.declared.choice.ResourcesChoice.TheVariants.{Blocks}
use Rattle.objects_payload.specs.Resources.{ListsAlone}

abbrev pub alone : ℕ → List Run
alone n = record { first = n; last = n } ∷ []

alone_listed : (n : ℕ) (runs : List Run) → IsRunsOf (InRuns (alone n)) runs → IsRunsOf (λ k. k ≡ n) runs
alone_listed n runs are = record { maximal = are.maximal; same = λ k. (λ i. there k ((are.same k).0 i), λ e. (are.same k).1 (back k e)) }
  where
    there : (k : ℕ) → InRuns (alone n) k → k ≡ n
    there k i = elim i [ inl r ↦ (let a = r.0 in let b = r.1 in omega arith) | inr j ↦ absurd j ]

    back : (k : ℕ) → k ≡ n → InRuns (alone n) k
    back k e = inl (omega arith, omega arith)

-- One AS number was pushed, and no other.
pub lists_alone : (n c : ℕ) (old built runs : List Run) (choice : ResourcesChoice (List Run)) → n ≡ c → old ≡ [] → built ≡ old ++ (record { first = n; last = n } ∷ [])
    → IsRunsOf (InRuns built) runs → choice ≡ Blocks runs → ListsAlone c choice
lists_alone n c old built runs choice e none pushed are is =
    let whole : built ≡ alone n = pushed ∙ ap (λ (l : List Run). l ++ alone n) none in
    subst (λ (k : ℕ). ListsAlone k choice) e (runs, is, alone_listed n runs (subst (λ (b : List Run). IsRunsOf (InRuns b) runs) whole are))
