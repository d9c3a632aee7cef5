-- Places where paths end, found one by one.
use Rattle.std.proofs.Common.{◌≡◌, ◌≢◌, ℕ, ◌+◌, zero, suc, List, [], ◌∷◌, ◌++◌, Some, length, refl, sym, ap, ◌∙◌, subst, arith}
use Rattle.std.specs.List.{slice_get}
use Rattle.std.proofs.lemmas.Option.{same_Some}
use Rattle.objects_rta_valid.specs.Places.{last_from, last_of}
use Rattle.objects_rta_anchors.specs.Ends.{AreEnds}

pub ended : (path left : List ℕ) (last : ℕ) → path ≢ [] → length left ≡ 0 → last_from last left ≡ last_from 0 path → last_of path ≡ last ∷ []
ended [] left last some e h = absurd (some refl)
ended (p ∷ path) [] last some e h = ap (λ (n : ℕ). let w : List ℕ = n ∷ [] in w) (sym h)
ended (p ∷ path) (q ∷ left) last some e h = absurd (omega arith)

-- So far: of each path up to there.
pub record EndsBelow (paths : List (List ℕ)) (i : ℕ) (ends : List ℕ) : Type 0 where
  pub long : length ends ≡ i
  pub each : (k end : ℕ) (path : List ℕ) → slice_get paths k ≡ Some path → slice_get ends k ≡ Some end → last_of path ≡ end ∷ []

pub ends_none : (paths : List (List ℕ)) (ends : List ℕ) → ends ≡ [] → EndsBelow paths 0 ends
ends_none paths ends e = subst (EndsBelow paths 0) (sym e) (record { long = refl; each = λ k end path a b. none k end b })
  where
    none : {W : Type 0} (k end : ℕ) → slice_get {X = ℕ} [] k ≡ Some end → W
    none k end b = absurd cc

-- The last one, or one before.
at_push : {X : Type 0} (P : ℕ → X → Type 0) (xs : List X) (x y : X) (k : ℕ) → P (length xs) x → ((j : ℕ) (z : X) → slice_get xs j ≡ Some z → P j z) → slice_get (xs ++ x ∷ []) k ≡ Some y → P k y
at_push {X} P [] x y zero p h e = subst (P zero) (same_Some x y e) p
at_push P [] x y (suc k) p h e = absurd cc
at_push {X} P (z ∷ xs) x y zero p h e = h zero y e
at_push P (z ∷ xs) x y (suc k) p h e = at_push (λ j w. P (suc j) w) xs x y k (subst (λ (n : ℕ). P n x) len p) (λ j w g. h (suc j) w g) e
  where
    len : length (z ∷ xs) ≡ suc (length xs)
    len = omega arith

pub ends_more : (paths : List (List ℕ)) (i : ℕ) (path ends news : List ℕ) (last : ℕ) → news ≡ ends ++ last ∷ [] → slice_get paths i ≡ Some path → last_of path ≡ last ∷ []
    → EndsBelow paths i ends → EndsBelow paths (i + 1) news
ends_more paths i path ends news last e at is b = subst (EndsBelow paths (i + 1)) (sym e) (record {
  long = long ends last i b.long;
  each = λ k end other a f. at_push (λ (j y : ℕ). (w : List ℕ) → slice_get paths j ≡ Some w → last_of w ≡ y ∷ []) ends last end k
      (λ w g. subst (λ (x : List ℕ). last_of x ≡ last ∷ []) (same_Some path w (sym at ∙ subst (λ (n : ℕ). slice_get paths n ≡ Some w) b.long g)) is)
      (λ j z g w s. b.each j z w s g) f other a;
})
  where
    long : (xs : List ℕ) (x i : ℕ) → length xs ≡ i → length (xs ++ x ∷ []) ≡ i + 1
    long [] x i e = omega arith
    long (y ∷ xs) x i e = let rest : length (xs ++ x ∷ []) ≡ length xs + 1 = long xs x (length xs) refl in omega (arith, rest)

pub ends_all : (paths : List (List ℕ)) (i : ℕ) (ends : List ℕ) → i ≡ length paths → EndsBelow paths i ends → AreEnds paths ends
ends_all paths i ends e b = record { long = b.long ∙ e; each = λ k end path a f. b.each k end path a f }
