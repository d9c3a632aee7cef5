-- Places that were followed for the first time, by where that ends.
use Rattle.std.proofs.Common.{◌≡◌, ◌⊎◌, ℕ, zero, suc, ◌+◌, ◌-◌, ◌<◌, ◌≤◌, ◌||◌, true, false, List, [], ◌∷◌, ◌++◌, length, get_or, take, drop, All, length-append, inl, inr, refl, sym, ap, subst, ◌∙◌, arith}
use Rattle.std.proofs.lemmas.Bool.{both_ways, cases_lt, false_from_ne_true, or_cases, or_left, or_right}
use Rattle.std.proofs.lemmas.List.{get_or-append_right, get_or_append_left, length-take-le, take-append-drop}
use Rattle.std.proofs.Math.Seq.{drop-cons}
use Rattle.objects_rta_valid.specs.Runs.{AreApart, AreFresh, AreInside, AreMeasured, AreUnderway, Ends, Forks, IsRun, Linked, RunFrom, known_at, on_at}
use Rattle.objects_rta_valid.specs.Following.{IsFollowed}
use Rattle.objects_rta_valid.specs.OnPaths.{has}
use Rattle.objects_rta_valid.specs.declared.paths.lengths.Fresh.{Fresh}
use Rattle.objects_rta_valid.specs.declared.paths.lengths.Length.{Length}
use Rattle.objects_rta_valid.specs.declared.paths.table.Found.{Found}
use Rattle.objects_rta_valid.specs.declared.paths.table.Found.TheVariants.{Nothing, One, Several}
use Rattle.objects_rta_valid.proofs.Apart.{AreDisjoint, apart_few, apart_parts, has_either, has_head, has_left, has_right}
use Rattle.objects_rta_valid.proofs.Running.{circle, circle_each, linked_all, linked_inside, linked_join, linked_on, linked_split, run_each, run_prepend}

-- The places lead from the first to that one.
abbrev pub Leads : List Found → ℕ → List ℕ → ℕ → Type 0
Leads steps first [] place = place ≡ first
Leads steps first (p ∷ places) place = (p ≡ first) × Linked steps (p ∷ places) (One place)

pub leads_next : (steps : List Found) (first : ℕ) (places : List ℕ) (place next : ℕ) → Leads steps first places place → on_at steps place ≡ One next → Leads steps first (places ++ place ∷ []) next
leads_next steps first [] place next l o = (l, o)
leads_next steps first (p ∷ places) place next l o = (l.0, linked_join steps (p ∷ places) place [] (One next) l.1 o)

pub leads_forks : (steps : List Found) (first : ℕ) (places : List ℕ) (place : ℕ) → Leads steps first places place → on_at steps place ≡ Several → AreApart (places ++ place ∷ []) → Forks steps first
leads_forks steps first [] place l o a = subst (λ (p : ℕ). Forks steps p) l (record { behind = []; linked = o; apart = a })
leads_forks steps first (p ∷ places) place l o a =
    subst (λ (q : ℕ). Forks steps q) l.0 (record { behind = places ++ place ∷ []; linked = linked_join steps (p ∷ places) place [] Several l.1 o; apart = a })

module _ (steps : List Found) (old : List Length) (m : AreMeasured steps old) where
  -- All of a path from a place that is told are told.
  known_all : (x : ℕ) (xs : List ℕ) (end : Found) → known_at old x ≡ true → Linked steps (x ∷ xs) end → (p : ℕ) → has (x ∷ xs) p ≡ true → known_at old p ≡ true
  known_all x xs end here l p h = linked_all steps (λ (q : ℕ). known_at old q ≡ true) x xs end (λ p q k o. m.closed p q k o) here l p h

  known_apart : (places : List ℕ) (x : ℕ) (xs : List ℕ) (end : Found) → ((p : ℕ) → has places p ≡ true → known_at old p ≡ false) → known_at old x ≡ true → Linked steps (x ∷ xs) end → AreDisjoint places (x ∷ xs)
  known_apart places x xs end new here l p h = false_from_ne_true (has (x ∷ xs) p) (λ e. both_ways (known_at old p) (new p h) (known_all x xs end here l p e))

  either_closed : (places : List ℕ) → ((p q : ℕ) → has places p ≡ true → on_at steps p ≡ One q → (known_at old q || has places q) ≡ true) → (p q : ℕ) → (known_at old p || has places p) ≡ true → on_at steps p ≡ One q → (known_at old q || has places q) ≡ true
  either_closed places own p q h o = go (or_cases (known_at old p) (has places p) h)
    where
      go : (known_at old p ≡ true) ⊎ (has places p ≡ true) → (known_at old q || has places q) ≡ true
      go (inl k) = or_left (known_at old q) (has places q) (m.closed p q k o)
      go (inr k) = own p q k o

  -- They come to a place that is told.
  pub fresh_joins : (first : ℕ) (places : List ℕ) (place n : ℕ) → Leads steps first places place → AreApart places → ((p : ℕ) → has places p ≡ true → known_at old p ≡ false) → known_at old place ≡ true → RunFrom steps place n → AreFresh steps old first places (length places) n
  fresh_joins first [] place n l a new here r =
      subst (λ (x : ℕ). AreFresh steps old x [] 0 n) l (record {
        each = λ k h. absurd (omega arith);
        whole = record { behind = r.behind; run = r.run; long = r.long ∙ (let e : n ≡ n + 0 = omega arith in e) };
        on = λ p h. or_left (known_at old p) false (known_all place r.behind r.run.end here r.run.linked p h);
        off = λ p h. absurd cc;
        closed = either_closed [] (λ p q h o. absurd cc);
      })
  fresh_joins first (x ∷ xs) place n l a new here r =
      subst (λ (y : ℕ). AreFresh steps old y (x ∷ xs) (length (x ∷ xs)) n) l.0 (record {
        each = λ k h. subst (λ (z : ℕ). RunFrom steps (get_or (x ∷ xs) k 0) (z + (length (x ∷ xs) - k))) r.long (run_each steps (x ∷ xs) place r.behind l.1 r.run a d k h);
        whole = record { behind = xs ++ place ∷ r.behind; run = run_prepend steps (x ∷ xs) place r.behind l.1 r.run a d; long = long };
        on = on;
        off = λ p h. has_left (x ∷ xs) (place ∷ r.behind) p h;
        closed = either_closed (x ∷ xs) own;
      })
    where
      d : AreDisjoint (x ∷ xs) (place ∷ r.behind)
      d = known_apart (x ∷ xs) place r.behind r.run.end new here r.run.linked

      long : suc (length (xs ++ place ∷ r.behind)) ≡ n + length (x ∷ xs)
      long =
          let size : length (xs ++ place ∷ r.behind) ≡ length xs + length (place ∷ r.behind) = length-append xs (place ∷ r.behind) in
          let one : length (place ∷ r.behind) ≡ suc (length r.behind) = refl in
          let two : length (x ∷ xs) ≡ suc (length xs) = refl in
          let three : suc (length r.behind) ≡ n = r.long in
          omega arith

      on : (p : ℕ) → has (x ∷ (xs ++ place ∷ r.behind)) p ≡ true → (known_at old p || has (x ∷ xs) p) ≡ true
      on p h = go (has_either (x ∷ xs) (place ∷ r.behind) p h)
        where
          go : (has (x ∷ xs) p ≡ true) ⊎ (has (place ∷ r.behind) p ≡ true) → (known_at old p || has (x ∷ xs) p) ≡ true
          go (inl e) = or_right (known_at old p) (has (x ∷ xs) p) e
          go (inr e) = or_left (known_at old p) (has (x ∷ xs) p) (known_all place r.behind r.run.end here r.run.linked p e)

      own : (p q : ℕ) → has (x ∷ xs) p ≡ true → on_at steps p ≡ One q → (known_at old q || has (x ∷ xs) q) ≡ true
      own p q h o = go (linked_on steps x xs (One place) l.1 p q h o)
        where
          go : (has (x ∷ xs) q ≡ true) ⊎ (One place ≡ One q) → (known_at old q || has (x ∷ xs) q) ≡ true
          go (inl e) = or_right (known_at old q) (has (x ∷ xs) q) e
          go (inr e) =
              let same : place ≡ q = cc in
              or_left (known_at old q) (has (x ∷ xs) q) (subst (λ (z : ℕ). known_at old z ≡ true) same here)

  -- They end among themselves: those behind have that many each.
  fresh_own : (first : ℕ) (xs : List ℕ) (c : ℕ) (cs : List ℕ) → Leads steps first xs c → AreApart xs → AreDisjoint xs (c ∷ cs) → IsRun steps (c ∷ cs) → ((k : ℕ) → k < length (c ∷ cs) → RunFrom steps (get_or (c ∷ cs) k 0) (suc (length cs))) → AreFresh steps old first (xs ++ c ∷ cs) (length xs) (suc (length cs))
  fresh_own first xs c cs l a d r each_c =
      record { each = each; whole = whole.0; on = λ p h. or_right (known_at old p) (has (xs ++ c ∷ cs) p) (whole.1 p h); off = whole.2; closed = either_closed (xs ++ c ∷ cs) own }
    where
      linked : (xs : List ℕ) → Leads steps first xs c → (k : ℕ) → k < length xs → Linked steps xs (One c)
      linked [] l k h = absurd (omega arith)
      linked (x ∷ xs) l k h = l.1

      each : (k : ℕ) → k < length (xs ++ c ∷ cs) → RunFrom steps (get_or (xs ++ c ∷ cs) k 0) (suc (length cs) + (length xs - k))
      each k h = go (cases_lt k (length xs))
        where
          go : (k < length xs) ⊎ (length xs ≤ k) → RunFrom steps (get_or (xs ++ c ∷ cs) k 0) (suc (length cs) + (length xs - k))
          go (inl i) =
              subst (λ (p : ℕ). RunFrom steps p (suc (length cs) + (length xs - k))) (sym (get_or_append_left xs (c ∷ cs) 0 k i)) (run_each steps xs c cs (linked xs l k i) r a d k i)
          go (inr i) =
              let size : length (xs ++ c ∷ cs) ≡ length xs + length (c ∷ cs) = length-append xs (c ∷ cs) in
              let run = each_c (k - length xs) (omega arith) in
              let same : suc (length cs) ≡ suc (length cs) + (length xs - k) = omega arith in
              subst (λ (p : ℕ). RunFrom steps p (suc (length cs) + (length xs - k))) (sym (get_or-append_right xs (c ∷ cs) (length xs) k 0 refl i))
              (subst (λ (n : ℕ). RunFrom steps (get_or (c ∷ cs) (k - length xs) 0) n) same run)

      whole : (w : RunFrom steps first (suc (length cs) + length xs)) × ((p : ℕ) → has (first ∷ w.behind) p ≡ true → has (xs ++ c ∷ cs) p ≡ true) × ((p : ℕ) → has (xs ++ c ∷ cs) p ≡ true → has (first ∷ w.behind) p ≡ true)
      whole = go xs l a d
        where
          go : (xs : List ℕ) → Leads steps first xs c → AreApart xs → AreDisjoint xs (c ∷ cs) → (w : RunFrom steps first (suc (length cs) + length xs)) × ((p : ℕ) → has (first ∷ w.behind) p ≡ true → has (xs ++ c ∷ cs) p ≡ true) × ((p : ℕ) → has (xs ++ c ∷ cs) p ≡ true → has (first ∷ w.behind) p ≡ true)
          go [] l a d =
              (record { behind = cs; run = subst (λ (p : ℕ). IsRun steps (p ∷ cs)) l r; long = omega arith }, λ p h. subst (λ (q : ℕ). has (q ∷ cs) p ≡ true) (sym l) h, λ p h. subst (λ (q : ℕ). has (q ∷ cs) p ≡ true) l h)
          go (x ∷ xs) l a d =
              let size : length (xs ++ c ∷ cs) ≡ length xs + length (c ∷ cs) = length-append xs (c ∷ cs) in
              let one : length (c ∷ cs) ≡ suc (length cs) = refl in
              let two : length (x ∷ xs) ≡ suc (length xs) = refl in
              (record { behind = xs ++ c ∷ cs; run = subst (λ (p : ℕ). IsRun steps (p ∷ (xs ++ c ∷ cs))) l.0 (run_prepend steps (x ∷ xs) c cs l.1 r a d); long = omega arith }, λ p h. subst (λ (q : ℕ). has (q ∷ (xs ++ c ∷ cs)) p ≡ true) (sym l.0) h, λ p h. subst (λ (q : ℕ). has (q ∷ (xs ++ c ∷ cs)) p ≡ true) l.0 h)

      own : (p q : ℕ) → has (xs ++ c ∷ cs) p ≡ true → on_at steps p ≡ One q → (known_at old q || has (xs ++ c ∷ cs) q) ≡ true
      own p q h o = or_right (known_at old q) (has (xs ++ c ∷ cs) q) (go xs l (has_either xs (c ∷ cs) p h))
        where
          in_run : (end : Found) → Ends (c ∷ cs) end → (has (c ∷ cs) q ≡ true) ⊎ (end ≡ One q) → has (c ∷ cs) q ≡ true
          in_run end ends (inl e) = e
          in_run end ends (inr e) = subst (λ (f : Found). Ends (c ∷ cs) f) e ends

          go : (xs : List ℕ) → Leads steps first xs c → (has xs p ≡ true) ⊎ (has (c ∷ cs) p ≡ true) → has (xs ++ c ∷ cs) q ≡ true
          go xs l (inr e) = has_right xs (c ∷ cs) q (in_run r.end r.ends (linked_on steps c cs r.end r.linked p q e o))
          go [] l (inl e) = absurd cc
          go (x ∷ xs) l (inl e) = step (linked_on steps x xs (One c) l.1 p q e o)
            where
              step : (has (x ∷ xs) q ≡ true) ⊎ (One c ≡ One q) → has ((x ∷ xs) ++ c ∷ cs) q ≡ true
              step (inl f) = has_left (x ∷ xs) (c ∷ cs) q f
              step (inr f) =
                  let same : c ≡ q = cc in
                  has_right (x ∷ xs) (c ∷ cs) q (subst (λ (z : ℕ). has (c ∷ cs) z ≡ true) same (has_head c cs))

  -- Nothing follows the last.
  pub fresh_stops : (first : ℕ) (places : List ℕ) (place : ℕ) → Leads steps first places place → AreApart (places ++ place ∷ []) → on_at steps place ≡ Nothing → AreFresh steps old first (places ++ place ∷ []) (length places) 1
  fresh_stops first places place l a o =
      let parts = apart_parts places (place ∷ []) a in
      let run : IsRun steps (place ∷ []) = record { end = Nothing; linked = o; apart = parts.1; ends = tt } in
      fresh_own first places place [] l parts.0 parts.2 run each
    where
      each : (k : ℕ) → k < length (place ∷ []) → RunFrom steps (get_or (place ∷ []) k 0) 1
      each zero h = record { behind = []; run = record { end = Nothing; linked = o; apart = (refl, tt); ends = tt }; long = refl }
      each (suc k) h = let one : length (place ∷ []) ≡ 1 = refl in absurd (omega arith)

  -- One of them follows the last.
  pub fresh_closes : (first : ℕ) (xs : List ℕ) (c : ℕ) (cs : List ℕ) → Leads steps first (xs ++ c ∷ cs) c → AreApart (xs ++ c ∷ cs) → AreFresh steps old first (xs ++ c ∷ cs) (length xs) (suc (length cs))
  fresh_closes first xs c cs l a =
      let parts = apart_parts xs (c ∷ cs) a in
      let both = split xs l in
      fresh_own first xs c cs both.0 parts.0 parts.2 (circle steps c cs both.1 parts.1) (circle_each steps c cs both.1 parts.1)
    where
      split : (xs : List ℕ) → Leads steps first (xs ++ c ∷ cs) c → Leads steps first xs c × Linked steps (c ∷ cs) (One c)
      split [] l = (l.0, l.1)
      split (x ∷ xs) l = let s = linked_split steps x xs c cs (One c) l.1 in ((l.0, s.0), s.1)

  pub fresh_circle : (first : ℕ) (places : List ℕ) (place before behind : ℕ) → before < length places → get_or places before 0 ≡ place → behind ≡ length places - before → Leads steps first places place → AreApart places → AreFresh steps old first places before behind
  fresh_circle first places place before behind h at long l a =
      let whole : places ≡ front ++ (place ∷ rest) = sym (take-append-drop before places) ∙ (ap (λ (ps : List ℕ). front ++ ps) (drop-cons places before 0 h) ∙ ap (λ (x : ℕ). front ++ (x ∷ rest)) at) in
      let fresh = fresh_closes first front place rest (subst (λ (ps : List ℕ). Leads steps first ps place) whole l) (subst AreApart whole a) in
      let size : length places ≡ length front + length (place ∷ rest) = ap (λ (ps : List ℕ). length ps) whole ∙ length-append front (place ∷ rest) in
      let one : length (place ∷ rest) ≡ suc (length rest) = refl in
      let start : length front ≡ before = length-take-le before places (omega arith) in
      let end : suc (length rest) ≡ behind = omega arith in
      let moved = subst (λ (ps : List ℕ). AreFresh steps old first ps (length front) (suc (length rest))) (sym whole) fresh in
      let counted = subst (λ (n : ℕ). AreFresh steps old first places n (suc (length rest))) start moved in
      subst (λ (n : ℕ). AreFresh steps old first places before n) end counted
    where
      front : List ℕ
      front = take before places

      rest : List ℕ
      rest = drop (suc before) places

-- A path has no more places than there are.
pub run_few : (steps : List Found) (first n : ℕ) → AreInside steps → first < length steps → RunFrom steps first n → n ≤ length steps
run_few steps first n inside here r =
    let all = linked_inside steps (length steps) first r.behind r.run.end inside here r.run.linked in
    let most = apart_few (length steps) (first ∷ r.behind) r.run.apart all in
    let one : length (first ∷ r.behind) ≡ suc (length r.behind) = refl in
    let long : suc (length r.behind) ≡ n = r.long in
    omega arith

-- What following comes to.
pub followed : (steps : List Found) (old now : List Length) (first : ℕ) (fresh : Fresh) → AreInside steps → first < length steps → AreFresh steps old first fresh.places.items fresh.before fresh.behind → AreUnderway old now fresh.places.items → All (λ place. place < length steps) fresh.places.items → IsFollowed steps old now first fresh
followed steps old now first fresh inside here f u all =
    record { fresh_are = f; underway = u; inside = all; few = run_few steps first (fresh.behind + fresh.before) inside here f.whole }
