-- Lengths while a path is followed, and when its places are measured.
use Rattle.std.proofs.Common.{◌≡◌, ◌≢◌, ◌⊎◌, ℕ, ◌+◌, ◌-◌, ◌<◌, ◌||◌, Bool, true, false, nat_eq, List, [], ◌∷◌, ◌++◌, length, get_or, set, length-append, inl, inr, refl, sym, ap, subst, ◌∙◌, arith}
use Rattle.std.proofs.lemmas.Bool.{both_ways, cases_eq, eqb-false, false_from_ne_true, or_parts}
use Rattle.std.proofs.lemmas.List.{get_or-set_other, get_or-set_same, get_or_append_left, length-set}
use Rattle.std.proofs.Math.Seq.{get_or-append_seam}
use Rattle.objects_rta_valid.specs.Runs.{AreFresh, AreMeasured, AreSet, AreUnderway, IsMeasured, RunFrom, Tells, is_known, known_at, length_at, on_at}
use Rattle.objects_rta_valid.specs.OnPaths.{has}
use Rattle.objects_rta_valid.specs.declared.paths.lengths.Length.{Length}
use Rattle.objects_rta_valid.specs.declared.paths.lengths.Length.TheVariants.{Unknown, Underway, Of}
use Rattle.objects_rta_valid.specs.declared.paths.table.Found.{Found}
use Rattle.objects_rta_valid.specs.declared.paths.table.Found.TheVariants.{One}
use Rattle.objects_rta_valid.proofs.Apart.{has_append, has_cases, has_either}

-- A place that isn't the last of these, nor one before it.
not_last : (places : List ℕ) (place p : ℕ) → has (places ++ place ∷ []) p ≡ false → (has places p ≡ false) × (p ≢ place)
not_last places place p h =
    let parts = or_parts (has places p) (has (place ∷ []) p) (sym (has_append places (place ∷ []) p) ∙ h) in
    let other = or_parts (nat_eq p place) false parts.1 in
    (parts.0, eqb-false p place other.0)

only_last : (place p : ℕ) → has (place ∷ []) p ≡ true → p ≡ place
only_last place p h = go (has_cases place [] p h)
  where
    go : (p ≡ place) ⊎ (has [] p ≡ true) → p ≡ place
    go (inl e) = e
    go (inr e) = absurd cc

-- What a list with one more has at its places.
kept_place : (places : List ℕ) (place k : ℕ) → k < length places → (k < length (places ++ place ∷ [])) × (get_or (places ++ place ∷ []) k 0 ≡ get_or places k 0)
kept_place places place k l =
    let size = length-append places (place ∷ []) in
    (omega arith, get_or_append_left places (place ∷ []) 0 k l)

last_place : (places : List ℕ) (place : ℕ) → (length places < length (places ++ place ∷ [])) × (get_or (places ++ place ∷ []) (length places) 0 ≡ place)
last_place places place =
    let size = length-append places (place ∷ []) in
    let one : length (place ∷ []) ≡ 1 = refl in
    (omega arith, get_or-append_seam places place [] 0)

pub underway_next : (old now : List Length) (places : List ℕ) (place : ℕ) → AreUnderway old now places → place < length now → has places place ≡ false → AreUnderway old (set now place (Underway (length places))) (places ++ place ∷ [])
underway_next old now places place u l new = record { size = length-set now place (Underway (length places)) ∙ u.size; marked = marked; others = others }
  where
    next : List Length
    next = set now place (Underway (length places))

    marked : (p : ℕ) → has (places ++ place ∷ []) p ≡ true → (k : ℕ) × (k < length (places ++ place ∷ [])) × (get_or (places ++ place ∷ []) k 0 ≡ p) × (length_at next p ≡ Underway k)
    marked p h = go (has_either places (place ∷ []) p h)
      where
        go : (has places p ≡ true) ⊎ (has (place ∷ []) p ≡ true) → (k : ℕ) × (k < length (places ++ place ∷ [])) × (get_or (places ++ place ∷ []) k 0 ≡ p) × (length_at next p ≡ Underway k)
        go (inl e) =
            let m = u.marked p e in
            let kept = kept_place places place m.0 m.1 in
            let apart : p ≢ place = λ same. both_ways (has places p) (ap (λ (z : ℕ). has places z) same ∙ new) e in
            (m.0, kept.0, kept.1 ∙ m.2, get_or-set_other now place p (Underway (length places)) Unknown apart ∙ m.3)
        go (inr e) =
            let same : p ≡ place = only_last place p e in
            let last = last_place places place in
            (length places, last.0, last.1 ∙ sym same, ap (λ (z : ℕ). length_at next z) same ∙ get_or-set_same now place (Underway (length places)) Unknown l)

    others : (p : ℕ) → has (places ++ place ∷ []) p ≡ false → length_at next p ≡ length_at old p
    others p h =
        let n = not_last places place p h in
        get_or-set_other now place p (Underway (length places)) Unknown n.1 ∙ u.others p n.0

module _ (steps : List Found) (old now : List Length) (places : List ℕ) (m : AreMeasured steps old) (u : AreUnderway old now places) (place : ℕ) where
  pub unknown_new : length_at now place ≡ Unknown → has places place ≡ false
  unknown_new e = false_from_ne_true (has places place) (λ h. let k = u.marked place h in let both : Underway k.0 ≡ Unknown = sym k.3 ∙ e in cc)

  pub unknown_old : length_at now place ≡ Unknown → known_at old place ≡ false
  unknown_old e = ap (λ (x : Length). is_known x) (sym (u.others place (unknown_new e)) ∙ e)

  of_new : (n : ℕ) → length_at now place ≡ Of n → has places place ≡ false
  of_new n e = false_from_ne_true (has places place) (λ h. let k = u.marked place h in let both : Underway k.0 ≡ Of n = sym k.3 ∙ e in cc)

  pub of_run : (n : ℕ) → length_at now place ≡ Of n → RunFrom steps place n
  of_run n e = subst (λ (x : Length). Tells steps place x) (sym (u.others place (of_new n e)) ∙ e) (m.tells place)

  pub of_known : (n : ℕ) → length_at now place ≡ Of n → known_at old place ≡ true
  of_known n e = ap (λ (x : Length). is_known x) (sym (u.others place (of_new n e)) ∙ e)

  pub underway_at : (j : ℕ) → length_at now place ≡ Underway j → (j < length places) × (get_or places j 0 ≡ place)
  underway_at j e = go (has places place) refl
    where
      go : (b : Bool) → has places place ≡ b → (j < length places) × (get_or places j 0 ≡ place)
      go true h =
          let k = u.marked place h in
          let both : Underway k.0 ≡ Underway j = sym k.3 ∙ e in
          let same : k.0 ≡ j = cc in
          (subst (λ (x : ℕ). x < length places) same k.1, subst (λ (x : ℕ). get_or places x 0 ≡ place) same k.2)
      go false h =
          let none : Tells steps place (Underway j) = subst (λ (x : Length). Tells steps place x) (sym (u.others place h) ∙ e) (m.tells place) in
          absurd none

pub set_more : (old now : List Length) (places : List ℕ) (before behind place n : ℕ) → n ≡ behind + (before - length places) → AreSet old now places before behind → place < length now → AreSet old (set now place (Of n)) (places ++ place ∷ []) before behind
set_more old now places before behind place n e s l = record { size = length-set now place (Of n) ∙ s.size; each = each; others = others }
  where
    next : List Length
    next = set now place (Of n)

    each : (p : ℕ) → has (places ++ place ∷ []) p ≡ true → (k : ℕ) × (k < length (places ++ place ∷ [])) × (get_or (places ++ place ∷ []) k 0 ≡ p) × (length_at next p ≡ Of (behind + (before - k)))
    each p h = go (cases_eq p place)
      where
        go : (p ≡ place) ⊎ (p ≡ place → ⊥) → (k : ℕ) × (k < length (places ++ place ∷ [])) × (get_or (places ++ place ∷ []) k 0 ≡ p) × (length_at next p ≡ Of (behind + (before - k)))
        go (inl same) =
            let last = last_place places place in
            (length places, last.0, last.1 ∙ sym same, ap (λ (z : ℕ). length_at next z) same ∙ (get_or-set_same now place (Of n) Unknown l ∙ ap (λ (z : ℕ). Of z) e))
        go (inr apart) = by_list (has_either places (place ∷ []) p h)
          where
            by_list : (has places p ≡ true) ⊎ (has (place ∷ []) p ≡ true) → (k : ℕ) × (k < length (places ++ place ∷ [])) × (get_or (places ++ place ∷ []) k 0 ≡ p) × (length_at next p ≡ Of (behind + (before - k)))
            by_list (inl f) =
                let m = s.each p f in
                let kept = kept_place places place m.0 m.1 in
                (m.0, kept.0, kept.1 ∙ m.2, get_or-set_other now place p (Of n) Unknown apart ∙ m.3)
            by_list (inr f) = absurd (apart (only_last place p f))

    others : (p : ℕ) → has (places ++ place ∷ []) p ≡ false → length_at next p ≡ length_at old p
    others p h =
        let m = not_last places place p h in
        get_or-set_other now place p (Of n) Unknown m.1 ∙ s.others p m.0

-- All that was followed is measured.
pub measured : (steps : List Found) (old mid new : List Length) (first : ℕ) (places : List ℕ) (before behind : ℕ) → AreMeasured steps old → AreFresh steps old first places before behind → AreUnderway old mid places → AreSet mid new places before behind → IsMeasured steps old new first (behind + before)
measured steps old mid new first places before behind m f u s =
    record { measured = record { size = s.size ∙ (u.size ∙ m.size); tells = tells; closed = closed }; path = f.whole; on = on }
  where
    tells : (p : ℕ) → Tells steps p (length_at new p)
    tells p = go (has places p) refl
      where
        go : (b : Bool) → has places p ≡ b → Tells steps p (length_at new p)
        go true h =
            let k = s.each p h in
            let run : RunFrom steps p (behind + (before - k.0)) = subst (λ (x : ℕ). RunFrom steps x (behind + (before - k.0))) k.2 (f.each k.0 k.1) in
            subst (λ (x : Length). Tells steps p x) (sym k.3) run
        go false h = subst (λ (x : Length). Tells steps p x) (sym (s.others p h ∙ u.others p h)) (m.tells p)

    known : (p : ℕ) → known_at new p ≡ (known_at old p || has places p)
    known p = go (has places p) refl
      where
        or_true : (b : Bool) → true ≡ (b || true)
        or_true true = refl
        or_true false = refl

        or_false : (b : Bool) → b ≡ (b || false)
        or_false true = refl
        or_false false = refl

        go : (b : Bool) → has places p ≡ b → known_at new p ≡ (known_at old p || b)
        go true h = ap (λ (x : Length). is_known x) (s.each p h).3 ∙ or_true (known_at old p)
        go false h = ap (λ (x : Length). is_known x) (s.others p h ∙ u.others p h) ∙ or_false (known_at old p)

    closed : (p q : ℕ) → known_at new p ≡ true → on_at steps p ≡ One q → known_at new q ≡ true
    closed p q h o = known q ∙ f.closed p q (sym (known p) ∙ h) o

    same_or : (a b c : Bool) → (c ≡ true → (a || b) ≡ true) → (b ≡ true → c ≡ true) → (a || b) ≡ (a || c)
    same_or true b c x y = refl
    same_or false true true x y = refl
    same_or false false false x y = refl
    same_or false true false x y = sym (y refl)
    same_or false false true x y = x refl

    on : (p : ℕ) → known_at new p ≡ (known_at old p || has (first ∷ f.whole.behind) p)
    on p = known p ∙ same_or (known_at old p) (has places p) (has (first ∷ f.whole.behind) p) (f.on p) (f.off p)
