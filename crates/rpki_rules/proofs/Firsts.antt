-- Tests in their order: the first that fails is one alone, and none fails where all are passed. Where none fails first it
-- can't be that not all are passed.
use Rattle.std.proofs.Common.{◌≡◌, ◌≢◌, List, [], ◌∷◌, ◌++◌, map, flat_map, Option, Some, None, refl, sym, ap, ◌∙◌, subst}
use Rattle.rpki_rules.specs.certs_basics.Lists.{Each, FirstFailing}

-- A test that is in the list is passed where all are.
passed_inside : {X : Type 0} (P : X → Type 0) (front : List X) (x : X) (behind : List X) → Each P (front ++ x ∷ behind) → P x
passed_inside P [] x behind all = all.0
passed_inside P (y ∷ front) x behind all = passed_inside P front x behind all.1

pub none_fails : {X : Type 0} (P : X → Type 0) (xs : List X) (x : X) → Each P xs → FirstFailing P xs x → ⊥
none_fails P xs x all f = f.fails (passed_inside P f.front x f.behind (subst (Each P) f.whole all))

one_first : {X : Type 0} (P : X → Type 0) (front other : List X) (x y : X) (behind rest : List X)
    → front ++ x ∷ behind ≡ other ++ y ∷ rest → Each P front → Each P other → (P x → ⊥) → (P y → ⊥) → x ≡ y
one_first P [] [] x y behind rest e p q m n = cc
one_first P [] (z ∷ other) x y behind rest e p q m n = let same : z ≡ x = cc in absurd (m (subst P same q.0))
one_first P (z ∷ front) [] x y behind rest e p q m n = let same : z ≡ y = cc in absurd (n (subst P same p.0))
one_first P (z ∷ front) (w ∷ other) x y behind rest e p q m n =
    let tails : front ++ x ∷ behind ≡ other ++ y ∷ rest = cc in
    one_first P front other x y behind rest tails p.1 q.1 m n

pub one_fails : {X : Type 0} (P : X → Type 0) (xs : List X) (x y : X) → FirstFailing P xs x → FirstFailing P xs y → x ≡ y
one_fails P xs x y f g = one_first P f.front g.front x y f.behind g.behind (sym f.whole ∙ g.whole) f.passed g.passed f.fails g.fails

-- The first test is passed, and one of the others fails first.
pub fails_later : {X : Type 0} (P : X → Type 0) (x : X) (xs : List X) (y : X) → P x → FirstFailing P xs y → FirstFailing P (x ∷ xs) y
fails_later {X} P x xs y p f = record { front = x ∷ f.front; behind = f.behind; whole = ap (λ (ys : List X). x ∷ ys) f.whole; passed = (p, f.passed); fails = f.fails }

pub some_fails : {X : Type 0} (P : X → Type 0) (xs : List X) → ((x : X) → ¬ (FirstFailing P xs x)) → ¬ (¬ (Each P xs))
some_fails P [] none k = k tt
some_fails P (x ∷ xs) none k = none x (record {
  front = [];
  behind = xs;
  whole = refl;
  passed = tt;
  fails = λ p. some_fails P xs (λ y f. none y (fails_later P x xs y p f)) (λ all. k (p, all));
})

-- Tests in parts.
pub each_split : {X : Type 0} (P : X → Type 0) (xs ys : List X) → Each P (xs ++ ys) → Each P xs × Each P ys
each_split P [] ys all = (tt, all)
each_split P (x ∷ xs) ys all = let rest = each_split P xs ys all.1 in ((all.0, rest.0), rest.1)

pub each_join : {X : Type 0} (P : X → Type 0) (xs ys : List X) → Each P xs → Each P ys → Each P (xs ++ ys)
each_join P [] ys p q = q
each_join P (x ∷ xs) ys p q = (p.0, each_join P xs ys p.1 q)

pub each_map : {X Y : Type 0} (f : X → Y) (P : Y → Type 0) (xs : List X) → Each P (map f xs) → Each (λ x. P (f x)) xs
each_map f P [] all = tt
each_map f P (x ∷ xs) all = (all.0, each_map f P xs all.1)

pub map_each : {X Y : Type 0} (f : X → Y) (P : Y → Type 0) (xs : List X) → Each (λ x. P (f x)) xs → Each P (map f xs)
map_each f P [] all = tt
map_each f P (x ∷ xs) all = (all.0, map_each f P xs all.1)

pub each_flat : {X Y : Type 0} (f : X → List Y) (P : Y → Type 0) (xs : List X) → Each P (flat_map f xs) → Each (λ x. Each P (f x)) xs
each_flat f P [] all = tt
each_flat f P (x ∷ xs) all = let parts = each_split P (f x) (flat_map f xs) all in (parts.0, each_flat f P xs parts.1)

pub flat_each : {X Y : Type 0} (f : X → List Y) (P : Y → Type 0) (xs : List X) → Each (λ x. Each P (f x)) xs → Each P (flat_map f xs)
flat_each f P [] all = tt
flat_each f P (x ∷ xs) all = each_join P (f x) (flat_map f xs) all.0 (flat_each f P xs all.1)

pub each_also : {X : Type 0} (P Q : X → Type 0) (xs : List X) → ((x : X) → P x → Q x) → Each P xs → Each Q xs
each_also P Q [] h all = tt
each_also P Q (x ∷ xs) h all = (h x all.0, each_also P Q xs h all.1)

-- What fails first by one condition fails first by another, which what is passed by the one is passed by.
pub fails_also : {X : Type 0} (P Q : X → Type 0) (xs : List X) (x : X) → ((y : X) → P y → Q y) → (Q x → P x) → FirstFailing P xs x → FirstFailing Q xs x
fails_also P Q xs x to back f = record {
  front = f.front;
  behind = f.behind;
  whole = f.whole;
  passed = each_also P Q f.front to f.passed;
  fails = λ q. f.fails (back q);
}

-- What may be missing and isn't.
pub some_of : {X : Type 0} (o : Option X) → o ≢ None → (x : X) × (o ≡ Some x)
some_of None n = absurd (n refl)
some_of (Some x) n = (x, refl)

pub not_none : {X : Type 0} (o : Option X) (x : X) → o ≡ Some x → o ≢ None
not_none {X} o x e n = let z : None ≡ Some x = sym n ∙ e in absurd cc

pub same_some : {X : Type 0} (o : Option X) (x y : X) → o ≡ Some x → o ≡ Some y → x ≡ y
same_some {X} o x y e f = let z : Some x ≡ Some y = sym e ∙ f in cc
