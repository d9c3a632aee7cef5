-- The claim rule, for one certificate and along a path.
use Rattle.std.proofs.Common.{◌≡◌, ℕ, ◌⊎◌, ◌↔◌, List, [], ◌∷◌, ◌++◌, false, IsTrue, inl, inr, refl, sym, ap, ◌∙◌, subst, le_refl, ◌+◌, ◌<◌, suc, length, get_or, map, take, drop, add-one}
use Rattle.std.proofs.lemmas.List.{map-append, take-append-drop}
use Rattle.std.proofs.Math.Seq.{take-suc, drop-cons}
use Rattle.resources_chain.specs.declared.choice.ResourcesChoice.TheVariants.{Inherit, Blocks}
use Rattle.resources_chain.specs.declared.claims.Overclaim.{Overclaim}
use Rattle.resources_chain.specs.declared.claims.Overclaim.TheVariants.{Refuse, Trim}
use Rattle.resources_chain.specs.declared.claims.ClaimError.{ClaimError}
use Rattle.resources_chain.specs.declared.claims.ClaimError.TheVariants.{Overclaimed, Memory}
use Rattle.resources_chain.specs.Sets.{Run, InRuns, AreMaximal, IsRunsOf, InFirstOnly, IsInside}
use Rattle.resources_chain.specs.Claims.{Choice, Keeps, FitsIn, Kept, Unfit, Refuses, Path, path_of, AllKeep, HeldAlong, FitsAlong, RefusesAlong}
use Rattle.resources_chain.proofs.SetLemmas.{runs_of_equal, inside_exactly}
use Rattle.resources_chain.proofs.WalkLemmas.{refuted}

-- One of the numbers that are outside.
some_outside : (a b numbers : List Run) → (IsInside a b → ⊥) → IsRunsOf (InFirstOnly a b) numbers → (n : ℕ) × InFirstOnly a b n
some_outside a b [] out r = absurd (out ((inside_exactly a b).1 (λ n d. (r.same n).1 d)))
some_outside a b (x ∷ xs) out r = (x.first, (r.same x.first).0 (inl (le_refl _, r.maximal.0)))

-- A list that isn't inside a set is refused, with what is outside.
pub unfit_of : {a b listed held outside numbers : List Run} → listed ≡ a → held ≡ b → (IsTrue false ↔ IsInside listed held) → IsRunsOf (InFirstOnly listed held) outside → IsRunsOf (InRuns outside) numbers → Unfit Refuse (Blocks a) (InRuns b) numbers
unfit_of {a} {b} {listed} {held} {numbers = numbers} e q told r s =
    let runs = runs_of_equal s r.same in
    let whole : Unfit Refuse (Blocks listed) (InRuns held) numbers = record { refused = refuted told; outside = runs; some = some_outside listed held numbers (refuted told) runs } in
    subst (λ (x : List Run). Unfit Refuse (Blocks x) (InRuns b) numbers) e (subst (λ (x : List Run). Unfit Refuse (Blocks listed) (InRuns x) numbers) q whole)

-- An inherited set is the issuer's.
pub inherited_is : {choice : Choice} (held : List Run) {copy : List Run} → Inherit ≡ choice → copy ≡ held → AreMaximal copy → IsRunsOf (Kept choice (InRuns held)) copy
inherited_is held {copy} e c m =
    subst (λ (x : Choice). IsRunsOf (Kept x (InRuns held)) copy) e (record { maximal = m; same = λ n. (λ i. (tt, subst (λ (x : List Run). InRuns x n) c i), λ i. subst (λ (x : List Run). InRuns x n) (sym c) i.1) })

-- A set that is listed and inside the issuer's is kept.
pub listed_is : {choice : Choice} {listed : List Run} (held : List Run) {copy : List Run} → Blocks listed ≡ choice → copy ≡ listed → AreMaximal copy → IsInside listed held → IsRunsOf (Kept choice (InRuns held)) copy
listed_is {listed = listed} held {copy} e c m inside =
    subst (λ (x : Choice). IsRunsOf (Kept x (InRuns held)) copy) e
    (record {
      maximal = m;
      same = λ n. (λ i. let j : InRuns listed n = subst (λ (x : List Run). InRuns x n) c i in (j, inside n j), λ i. subst (λ (x : List Run). InRuns x n) (sym c) i.0);
    })

-- What is asked of a claim depends on which numbers are held alone.
fits_at : (mode : Overclaim) (choice : Choice) {h k : ℕ → Type 0} → ((n : ℕ) → h n → k n) → FitsIn mode choice h → FitsIn mode choice k
fits_at Refuse choice to f = λ n i. to n (f n i)
fits_at Trim choice to f = tt

unfit_at : (mode : Overclaim) (choice : Choice) {h k : ℕ → Type 0} {numbers : List Run} → ((n : ℕ) → h n ↔ k n) → Unfit mode choice h numbers → Unfit mode choice k numbers
unfit_at mode choice same u =
    record {
      refused = λ f. u.refused (fits_at mode choice (λ n. (same n).1) f);
      outside = runs_of_equal u.outside (λ n. (λ o. (o.0, λ w. o.1 ((same n).1 w)), λ o. (o.0, λ w. o.1 ((same n).0 w))));
      some = (u.some.0, (u.some.1.0, λ w. u.some.1.1 ((same u.some.0).1 w)));
    }

-- What ends with something isn't empty.
not_empty : {A : Type 0} (front : List A) (x : A) (behind : List A) → [] ≡ front ++ x ∷ behind → ⊥
not_empty [] x behind e = absurd cc
not_empty (y ∷ front) x behind e = absurd cc

-- Where a list that ends with `x` is cut at `y`: at that end, or before.
cut_snoc : {A : Type 0} (all front : List A) (x y : A) (behind : List A) → all ++ x ∷ [] ≡ front ++ y ∷ behind → ((all ≡ front) × (x ≡ y)) ⊎ ((b : List A) × (all ≡ front ++ y ∷ b))
cut_snoc [] [] x y behind e = inl (refl, cc)
cut_snoc [] (z ∷ front) x y behind e = let tail : [] ≡ front ++ y ∷ behind = cc in absurd (not_empty front y behind tail)
cut_snoc (a ∷ all) [] x y behind e = let head : a ≡ y = cc in inr (all, cc)
cut_snoc (a ∷ all) (z ∷ front) x y behind e =
    let head : a ≡ z = cc in
    let tail : all ++ x ∷ [] ≡ front ++ y ∷ behind = cc in
    elim (cut_snoc all front x y behind tail) [
      | inl h ↦ inl (let whole : all ≡ front = h.0 in cc, h.1)
      | inr h ↦ inr (h.0, let whole : all ≡ front ++ y ∷ h.0 = h.1 in cc)
    ]

keep_snoc : (front : Path) (claim : Choice × Overclaim) (n : ℕ) → AllKeep (front ++ claim ∷ []) n ↔ (AllKeep front n × Keeps claim.0 n)
keep_snoc [] claim n = (λ k. (tt, k.0), λ k. (k.1, tt))
keep_snoc (c ∷ front) claim n =
    let h = keep_snoc front claim n in
    (λ k. let t = h.0 k.1 in ((k.0, t.0), t.1), λ k. (k.0.0, h.1 (k.0.1, k.1)))

fits_snoc : (h : ℕ → Type 0) (front : Path) (claim : Choice × Overclaim) → FitsAlong h front → FitsIn claim.1 claim.0 (HeldAlong h front) → FitsAlong h (front ++ claim ∷ [])
fits_snoc h front claim fits fit = λ f c b e.
    elim (cut_snoc front f claim c b e) [
      | inl w ↦ subst (λ (x : Choice × Overclaim). FitsIn x.1 x.0 (HeldAlong h f)) w.1 (subst (λ (x : Path). FitsIn claim.1 claim.0 (HeldAlong h x)) w.0 fit)
      | inr w ↦ fits f c w.0 w.1
    ]

-- The certificates of a path that were walked so far, and what is held below them.
pub record Along (h : ℕ → Type 0) (front : Path) (held : List Run) : Type 0 where
  pub fits : FitsAlong h front
  pub kept : IsRunsOf (HeldAlong h front) held

pub along_start : (held : List Run) {copy : List Run} → copy ≡ held → AreMaximal copy → Along (InRuns held) [] copy
along_start held {copy} c m =
    record {
      fits = λ f x b e. absurd (not_empty f x b e);
      kept = record { maximal = m; same = λ n. (λ i. (subst (λ (x : List Run). InRuns x n) c i, tt), λ i. subst (λ (x : List Run). InRuns x n) (sym c) i.0) };
    }

pub along_step : (h : ℕ → Type 0) (front : Path) (claim : Choice × Overclaim) {held next : List Run} → Along h front held → FitsIn claim.1 claim.0 (InRuns held) → IsRunsOf (Kept claim.0 (InRuns held)) next → Along h (front ++ claim ∷ []) next
along_step h front claim a fit kept =
    record {
      fits = fits_snoc h front claim a.fits (fits_at claim.1 claim.0 (λ n. (a.kept.same n).0) fit);
      kept = runs_of_equal kept (λ n. (
        λ k. let w = (a.kept.same n).0 k.1 in (w.0, (keep_snoc front claim n).1 (w.1, k.0)),
        λ w. let k = (keep_snoc front claim n).0 w.1 in (k.1, (a.kept.same n).1 (w.0, k.0)),
      ));
    }

pub along_refused : (h : ℕ → Type 0) (front : Path) (claim : Choice × Overclaim) (behind : Path) {held : List Run} {path : Path} (refusal : ClaimError (List Run)) → path ≡ front ++ claim ∷ behind → Along h front held → Refuses claim.1 claim.0 (InRuns held) refusal → RefusesAlong h path refusal
along_refused h front claim behind (Overclaimed numbers) whole a u =
    record { front = front; claim = claim; behind = behind; whole = whole; fits = a.fits; unfit = unfit_at claim.1 claim.0 a.kept.same u }
along_refused h front claim behind Memory whole a u = tt

-- One more of the elements, and the rest.
pub took_more : {A B : Type 0} (f : A → B) (xs : List A) (i : ℕ) (x : A) → i < length xs → x ≡ get_or xs i x → map f (take (i + 1) xs) ≡ map f (take i xs) ++ f x ∷ []
took_more f xs i x p e =
    ap (λ (n : ℕ). map f (take n xs)) (add-one i) ∙ ap (map f) (take-suc xs i x p) ∙ map-append f (take i xs) (get_or xs i x ∷ []) ∙ ap (λ y. map f (take i xs) ++ f y ∷ []) (sym e)

pub cut_at : {A B : Type 0} (f : A → B) (xs : List A) (i : ℕ) (x : A) → i < length xs → x ≡ get_or xs i x → map f xs ≡ map f (take i xs) ++ f x ∷ map f (drop (suc i) xs)
cut_at f xs i x p e =
    ap (map f) (sym (take-append-drop i xs)) ∙ map-append f (take i xs) (drop i xs) ∙ ap (λ ys. map f (take i xs) ++ map f ys) (drop-cons xs i x p) ∙ ap (λ y. map f (take i xs) ++ f y ∷ map f (drop (suc i) xs)) (sym e)

-- A path of choices as they stand is itself.
pub path_is : (path : Path) → path_of (λ (c : Choice). c) path ≡ path
path_is [] = refl
path_is (claim ∷ path) = ap (λ (behind : Path). claim ∷ behind) (path_is path)
