-- The points that a judge tells, of the same witness and the same world.
use Rattle.std.proofs.Common.{◌≡◌, ℕ, List, Result, Ok, Err, ap, ◌∙◌, subst}
use Rattle.std.specs.Prelude.{IfOk}
use Rattle.rpki_validator.specs.rpki_rules.Attests.{WitnessValue}
use Rattle.rpki_validator.specs.rpki_rules.World.{World}
use Rattle.rpki_steps.specs.rpki_judge.Counted.{ReadsPoints}

abbrev witness_with : List ℕ → List (List ℕ) → List ℕ → WitnessValue
witness_with name chain object = record { locator = name; chain = chain; object = object }

pub same_witness : {J E : Type 0} (points : J → ℕ) (w : World) (t : WitnessValue) (l o : List ℕ) (ls : List (List ℕ)) (r : Result J E)
    → IfOk r (λ j. ReadsPoints w (witness_with l ls o) (points j)) → l ≡ t.locator → ls ≡ t.chain → o ≡ t.object → IfOk r (λ j. ReadsPoints w t (points j))
same_witness points w t l o ls (Ok j) h el es eo =
    let one : witness_with l ls o ≡ t = ap (λ (x : List ℕ). witness_with x ls o) el ∙ ap (λ (x : List (List ℕ)). witness_with t.locator x o) es ∙ ap (witness_with t.locator t.chain) eo in
    subst (λ (x : WitnessValue). ReadsPoints w x (points j)) one h
same_witness points w t l o ls (Err e) h el es eo = tt

pub same_world : {J E : Type 0} (points : J → ℕ) (v w : World) (t : WitnessValue) (r : Result J E) → IfOk r (λ j. ReadsPoints v t (points j)) → v ≡ w → IfOk r (λ j. ReadsPoints w t (points j))
same_world points v w t (Ok j) h e = subst (λ (x : World). ReadsPoints x t (points j)) e h
same_world points v w t (Err x) h e = tt
