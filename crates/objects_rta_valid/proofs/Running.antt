-- Runs: put before each other, turned round, and walked.
use Rattle.std.proofs.Common.{◌≡◌, ◌⊎◌, ℕ, zero, suc, ◌+◌, ◌-◌, ◌<◌, true, List, [], ◌∷◌, ◌++◌, length, get_or, take, drop, All, length-append, inl, inr, refl, sym, ap, subst, ◌∙◌, arith}
use Rattle.std.proofs.lemmas.List.{take-append-drop}
use Rattle.std.proofs.lemmas.List.Elements.{All-cons, All-nil}
use Rattle.std.proofs.Math.Seq.{drop-cons}
use Rattle.objects_rta_valid.specs.Runs.{AreApart, Ends, IsRun, Linked, RunFrom, on_at, onward, walk}
use Rattle.objects_rta_valid.specs.OnPaths.{has}
use Rattle.objects_rta_valid.specs.declared.paths.table.Found.{Found}
use Rattle.objects_rta_valid.specs.declared.paths.table.Found.TheVariants.{Nothing, One, Several}
use Rattle.objects_rta_valid.proofs.Apart.{AreDisjoint, apart_from, apart_parts, disjoint_swap, has_behind, has_cases, has_head, has_right}

module _ (steps : List Found) where
  pub linked_join : (xs : List ℕ) (q : ℕ) (ys : List ℕ) (end : Found) → Linked steps xs (One q) → Linked steps (q ∷ ys) end → Linked steps (xs ++ q ∷ ys) end
  linked_join [] q ys end l m = absurd l
  linked_join (x ∷ []) q ys end l m = (l, m)
  linked_join (x ∷ y ∷ xs) q ys end l m = (l.0, linked_join (y ∷ xs) q ys end l.1 m)

  pub linked_split : (x : ℕ) (xs : List ℕ) (q : ℕ) (ys : List ℕ) (end : Found) → Linked steps ((x ∷ xs) ++ q ∷ ys) end → Linked steps (x ∷ xs) (One q) × Linked steps (q ∷ ys) end
  linked_split x [] q ys end l = (l.0, l.1)
  linked_split x (y ∷ xs) q ys end l = let r = linked_split y xs q ys end l.1 in ((l.0, r.0), r.1)

  -- What follows a place of them is one of them, or the end.
  pub linked_on : (x : ℕ) (xs : List ℕ) (end : Found) → Linked steps (x ∷ xs) end → (p q : ℕ) → has (x ∷ xs) p ≡ true → on_at steps p ≡ One q → (has (x ∷ xs) q ≡ true) ⊎ (end ≡ One q)
  linked_on x [] end l p q h o = go (has_cases x [] p h)
    where
      go : (p ≡ x) ⊎ (has [] p ≡ true) → (has (x ∷ []) q ≡ true) ⊎ (end ≡ One q)
      go (inl e) = inr (sym l ∙ (ap (λ (z : ℕ). on_at steps z) (sym e) ∙ o))
      go (inr e) = absurd cc
  linked_on x (y ∷ xs) end l p q h o = go (λ e. linked_on y xs end l.1 p q e o) (has_cases x (y ∷ xs) p h)
    where
      behind : (has (y ∷ xs) q ≡ true) ⊎ (end ≡ One q) → (has (x ∷ y ∷ xs) q ≡ true) ⊎ (end ≡ One q)
      behind (inl e) = inl (has_behind x (y ∷ xs) q e)
      behind (inr e) = inr e

      go : (has (y ∷ xs) p ≡ true → (has (y ∷ xs) q ≡ true) ⊎ (end ≡ One q)) → (p ≡ x) ⊎ (has (y ∷ xs) p ≡ true) → (has (x ∷ y ∷ xs) q ≡ true) ⊎ (end ≡ One q)
      go more (inl e) =
          let both : One y ≡ One q = sym l.0 ∙ (ap (λ (z : ℕ). on_at steps z) (sym e) ∙ o) in
          let same : y ≡ q = cc in
          inl (has_behind x (y ∷ xs) q (subst (λ (z : ℕ). has (y ∷ xs) z ≡ true) same (has_head y xs)))
      go more (inr e) = behind (more e)

  -- What holds of one and of whatever follows holds of all.
  pub linked_all : (S : ℕ → Type 0) (x : ℕ) (xs : List ℕ) (end : Found) → ((p q : ℕ) → S p → on_at steps p ≡ One q → S q) → S x → Linked steps (x ∷ xs) end → (p : ℕ) → has (x ∷ xs) p ≡ true → S p
  linked_all S x [] end closed here l p h = go (has_cases x [] p h)
    where
      go : (p ≡ x) ⊎ (has [] p ≡ true) → S p
      go (inl e) = subst S (sym e) here
      go (inr e) = absurd cc
  linked_all S x (y ∷ xs) end closed here l p h = go (λ e. linked_all S y xs end closed (closed x y here l.0) l.1 p e) (has_cases x (y ∷ xs) p h)
    where
      go : (has (y ∷ xs) p ≡ true → S p) → (p ≡ x) ⊎ (has (y ∷ xs) p ≡ true) → S p
      go more (inl e) = subst S (sym e) here
      go more (inr e) = more e

  pub linked_inside : (n : ℕ) (x : ℕ) (xs : List ℕ) (end : Found) → ((p q : ℕ) → on_at steps p ≡ One q → q < n) → x < n → Linked steps (x ∷ xs) end → All (λ p. p < n) (x ∷ xs)
  linked_inside n x [] end inside here l = All-cons (λ (p : ℕ). p < n) x [] here (All-nil (λ (p : ℕ). p < n))
  linked_inside n x (y ∷ xs) end inside here l = All-cons (λ (p : ℕ). p < n) x (y ∷ xs) here (linked_inside n y xs end inside (inside x y l.0) l.1)

  pub linked_walk : (x : ℕ) (xs : List ℕ) (end : Found) → Linked steps (x ∷ xs) end → walk steps (suc (length xs)) x ≡ x ∷ xs
  linked_walk x [] end l = refl
  linked_walk x (y ∷ xs) end l =
      ap (λ (f : Found). x ∷ walk steps (suc (length xs)) (onward f x)) l.0 ∙ ap (λ (ps : List ℕ). x ∷ ps) (linked_walk y xs end l.1)

  ends_more : (xs ys : List ℕ) (end : Found) → Ends ys end → Ends (xs ++ ys) end
  ends_more xs ys Nothing h = tt
  ends_more xs ys (One q) h = has_right xs ys q h
  ends_more xs ys Several h = h

  -- New places before a run.
  pub run_prepend : (xs : List ℕ) (q : ℕ) (ys : List ℕ) → Linked steps xs (One q) → IsRun steps (q ∷ ys) → AreApart xs → AreDisjoint xs (q ∷ ys) → IsRun steps (xs ++ q ∷ ys)
  run_prepend xs q ys l r a d =
      record { end = r.end; linked = linked_join xs q ys r.end l r.linked; apart = apart_from xs (q ∷ ys) a r.apart d; ends = ends_more xs (q ∷ ys) r.end r.ends }

  pub run_each : (xs : List ℕ) (q : ℕ) (ys : List ℕ) → Linked steps xs (One q) → IsRun steps (q ∷ ys) → AreApart xs → AreDisjoint xs (q ∷ ys) → (k : ℕ) → k < length xs → RunFrom steps (get_or xs k 0) (suc (length ys) + (length xs - k))
  run_each [] q ys l r a d k h = absurd l
  run_each (x ∷ xs) q ys l r a d zero h =
      let long : length (xs ++ q ∷ ys) ≡ length xs + length (q ∷ ys) = length-append xs (q ∷ ys) in
      let one : length (q ∷ ys) ≡ suc (length ys) = refl in
      let two : length (x ∷ xs) ≡ suc (length xs) = refl in
      record { behind = xs ++ q ∷ ys; run = run_prepend (x ∷ xs) q ys l r a d; long = omega arith }
  run_each (x ∷ []) q ys l r a d (suc k) h = let one : length (x ∷ []) ≡ 1 = refl in absurd (omega arith)
  run_each (x ∷ y ∷ xs) q ys l r a d (suc k) h =
      let one : length (x ∷ y ∷ xs) ≡ suc (length (y ∷ xs)) = refl in
      let more = run_each (y ∷ xs) q ys l.1 r a.1 (λ p e. d p (has_behind x (y ∷ xs) p e)) k (omega arith) in
      let same : suc (length ys) + (length (y ∷ xs) - k) ≡ suc (length ys) + (length (x ∷ y ∷ xs) - suc k) = omega arith in
      subst (λ (n : ℕ). RunFrom steps (get_or (y ∷ xs) k 0) n) same more

  -- A circle of places, from each of them.
  pub circle : (c : ℕ) (cs : List ℕ) → Linked steps (c ∷ cs) (One c) → AreApart (c ∷ cs) → IsRun steps (c ∷ cs)
  circle c cs l a = record { end = One c; linked = l; apart = a; ends = has_head c cs }

  pub circle_each : (c : ℕ) (cs : List ℕ) → Linked steps (c ∷ cs) (One c) → AreApart (c ∷ cs) → (k : ℕ) → k < length (c ∷ cs) → RunFrom steps (get_or (c ∷ cs) k 0) (suc (length cs))
  circle_each c cs l a zero h = record { behind = cs; run = circle c cs l a; long = refl }
  circle_each c cs l a (suc k) h =
      let more : length (c ∷ cs) ≡ suc (length cs) = refl in
      let inside : k < length cs = omega arith in
      let whole : cs ≡ front ++ (y ∷ behind) = sym (take-append-drop k cs) ∙ ap (λ (ps : List ℕ). front ++ ps) (drop-cons cs k 0 inside) in
      let split = linked_split c front y behind (One c) (subst (λ (ps : List ℕ). Linked steps (c ∷ ps) (One c)) whole l) in
      let parts = apart_parts (c ∷ front) (y ∷ behind) (subst (λ (ps : List ℕ). AreApart (c ∷ ps)) whole a) in
      let linked = linked_join (y ∷ behind) c front (One y) split.1 split.0 in
      let apart = apart_from (y ∷ behind) (c ∷ front) parts.1 parts.0 (disjoint_swap (c ∷ front) (y ∷ behind) parts.2) in
      let size : length cs ≡ length front + length (y ∷ behind) = ap (λ (ps : List ℕ). length ps) whole ∙ length-append front (y ∷ behind) in
      let turned : length (behind ++ c ∷ front) ≡ length behind + length (c ∷ front) = length-append behind (c ∷ front) in
      let one : length (y ∷ behind) ≡ suc (length behind) = refl in
      let two : length (c ∷ front) ≡ suc (length front) = refl in
      record { behind = behind ++ c ∷ front; run = circle y (behind ++ c ∷ front) linked apart; long = omega arith }
    where
      front : List ℕ
      front = take k cs

      y : ℕ
      y = get_or cs k 0

      behind : List ℕ
      behind = drop (suc k) cs
