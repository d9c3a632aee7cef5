use Rattle.std.proofs.Common.{◌≡◌, ◌∷◌, ℕ, List, Option, String, ap, map, refl, string_bytes, sym, ◌∙◌}
use Rattle.std.specs.Global.{Global}
use Rattle.std.specs.Prelude.{IfNone}
use Rattle.rpki_validator.proofs.Options.{none_then}
use Rattle.rpki_questions.proofs.QuestionWords.{asked_behind, none_counted, none_judged, none_of, none_reached, none_refused, none_told}
use Rattle.rpki_questions.specs.Requests.{Asked, IsAskedBy, IsOf}
use Rattle.rpki_questions.proofs.requests.question_of.Goals as goal

-- The words by their octets, where the first is that verb.
behind : (words : List (String Global)) (word : String Global) (others : List (String Global)) (text verb : List ℕ) → words ≡ word ∷ others → text ≡ string_bytes word → text ≡ verb
    → map string_bytes words ≡ verb ∷ map string_bytes others
behind words word others text verb e is same =
    ap (map string_bytes) e ∙ ap (λ (w : List ℕ). w ∷ map string_bytes others) (sym is ∙ same)

-- They ask nothing where those behind the verb ask nothing of its kind.
unasked : {A N : Type 0} (o : Option A) (words : List (String Global)) (word : String Global) (others : List (String Global)) (text verb : List ℕ) → words ≡ word ∷ others → text ≡ string_bytes word → text ≡ verb
    → IfNone o N → (N → (asked : Asked) → IsOf verb (map string_bytes others) asked → ⊥) → IfNone o ((asked : Asked) → IsAskedBy (map string_bytes words) asked → ⊥)
unasked o words word others text verb e is same none none_of_kind = none_then o none (λ n. asked_behind _ _ _ (behind words word others text verb e is same) (none_of_kind n))

pub returns-in-judge-clause-none : goal.returns-in-judge-clause-none
returns-in-judge-clause-none c =
    unasked c.judge_of.result _ c.in-Some.verb.now c.in-Some.words.now _ _ c.in-Some.ensures.cases.0 c.as_str.ensures.value c.in-judge.is c.judge_of.ensures.none (none_judged _)

pub returns-in-reach-clause-none : goal.returns-in-reach-clause-none
returns-in-reach-clause-none c =
    unasked c.reach_of.result _ c.in-Some.verb.now c.in-Some.words.now _ _ c.in-Some.ensures.cases.0 c.as_str.ensures.value c.in-reach.is c.reach_of.ensures.none (none_reached _)

pub returns-in-why-clause-none : goal.returns-in-why-clause-none
returns-in-why-clause-none c =
    unasked c.why_of.result _ c.in-Some.verb.now c.in-Some.words.now _ _ c.in-Some.ensures.cases.0 c.as_str.ensures.value c.in-why.is c.why_of.ensures.none (none_told _)

pub returns-in-refusals-clause-none : goal.returns-in-refusals-clause-none
returns-in-refusals-clause-none c =
    unasked c.refusals_of.result _ c.in-Some.verb.now c.in-Some.words.now _ _ c.in-Some.ensures.cases.0 c.as_str.ensures.value c.in-refusals.is c.refusals_of.ensures.none (none_refused _)

pub returns-in-cost-clause-none : goal.returns-in-cost-clause-none
returns-in-cost-clause-none c =
    unasked c.cost_of.result _ c.in-Some.verb.now c.in-Some.words.now _ _ c.in-Some.ensures.cases.0 c.as_str.ensures.value c.in-cost.is c.cost_of.ensures.none (none_counted _)

pub returns-in_default-as_str-clause-none : goal.returns-in_default-as_str-clause-none
returns-in_default-as_str-clause-none c =
    let other = c.in_default-as_str in
    asked_behind _ _ _ (behind _ c.in-Some.verb.now c.in-Some.words.now _ _ c.in-Some.ensures.cases.0 c.as_str.ensures.value refl) (none_of _ _ other.not-judge other.not-reach other.not-why other.not-refusals other.not-cost)
