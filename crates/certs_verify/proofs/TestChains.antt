-- Tests in their order: the first that fails is one alone, and none fails where all are passed.
use Rattle.std.proofs.Common.{◌≡◌, ◌↔◌, List, [], ◌∷◌, ◌++◌, length, Result, Ok, Err, refl, sym, ap, ◌∙◌, subst}
use Rattle.std.specs.Prelude.{IsOk}
use Rattle.certs_verify.specs.certs_basics.Lists.{Each, FirstFailing}
use Rattle.certs_verify.specs.TestAnswers.{Answers}

-- The first test fails.
pub fails_at_once : {X : Type 0} (P : X → Type 0) (x : X) (xs : List X) → (P x → ⊥) → FirstFailing P (x ∷ xs) x
fails_at_once P x xs n = record { front = []; behind = xs; whole = refl; passed = tt; fails = n }

-- The first test is passed, and the others answer.
pub passes_first : {X : Type 0} (P : X → Type 0) (x : X) (xs : List X) (r : Result (Unit {0}) X) → P x → Answers P xs r → Answers P (x ∷ xs) r
passes_first P x xs (Ok u) p all = (p, all)
passes_first P x xs (Err y) p f = record { front = x ∷ f.front; behind = f.behind; whole = ap (λ (ys : List _). x ∷ ys) f.whole; passed = (p, f.passed); fails = f.fails }

-- A test that is in the list is passed where all are.
passed_inside : {X : Type 0} (P : X → Type 0) (front : List X) (x : X) (behind : List X) → Each P (front ++ x ∷ behind) → P x
passed_inside P [] x behind all = all.0
passed_inside P (y ∷ front) x behind all = passed_inside P front x behind all.1

pub none_fails : {X : Type 0} (P : X → Type 0) (xs : List X) (x : X) → Each P xs → FirstFailing P xs x → ⊥
none_fails P xs x all f = f.fails (passed_inside P f.front x f.behind (subst (Each P) f.whole all))

-- The first that fails is one alone.
one_first : {X : Type 0} (P : X → Type 0) (front other : List X) (x y : X) (behind rest : List X)
    → front ++ x ∷ behind ≡ other ++ y ∷ rest → Each P front → Each P other → (P x → ⊥) → (P y → ⊥) → x ≡ y
one_first P [] [] x y behind rest e p q m n = cc
one_first P [] (z ∷ other) x y behind rest e p q m n = let same : z ≡ x = cc in absurd (m (subst P same q.0))
one_first P (z ∷ front) [] x y behind rest e p q m n = let same : z ≡ y = cc in absurd (n (subst P same p.0))
one_first P (z ∷ front) (w ∷ other) x y behind rest e p q m n =
    let tails : front ++ x ∷ behind ≡ other ++ y ∷ rest = cc in
    one_first P front other x y behind rest tails p.1 q.1 m n

pub one_fails_first : {X : Type 0} (P : X → Type 0) (xs : List X) (x y : X) → FirstFailing P xs x → FirstFailing P xs y → x ≡ y
one_fails_first P xs x y f g = one_first P f.front g.front x y f.behind g.behind (sym f.whole ∙ g.whole) f.passed g.passed f.fails g.fails

-- So the answer is `Ok` exactly where all are passed, and else exactly the first that isn't.
pub answers_ok : {X : Type 0} (P : X → Type 0) (xs : List X) (r : Result (Unit {0}) X) → Answers P xs r → (IsOk r ↔ Each P xs)
answers_ok P xs (Ok u) all = ((λ _. all), (λ _. refl))
answers_ok P xs (Err y) f = ((λ no. absurd cc), (λ all. absurd (none_fails P xs y all f)))

pub answers_err : {X : Type 0} (P : X → Type 0) (xs : List X) (r : Result (Unit {0}) X) → Answers P xs r → (x : X) → ((r ≡ Err x) ↔ FirstFailing P xs x)
answers_err P xs (Ok u) all x = ((λ no. absurd cc), (λ f. absurd (none_fails P xs x all f)))
answers_err P xs (Err y) f x = (
  (λ e. let same : y ≡ x = cc in subst (FirstFailing P xs) same f),
  (λ g. ap (λ (z : _). Err z) (one_fails_first P xs y x f g)),
)

-- No test is left.
pub none_left : {X : Type 0} (P : X → Type 0) (xs : List X) → length xs ≡ 0 → Each P xs
none_left P [] e = tt
none_left P (x ∷ xs) e = absurd cc
