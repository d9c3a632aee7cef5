-- What is told of authorities, one after another, and lists in which none stands twice.
use Rattle.std.proofs.Common.{◌≡◌, ◌<◌, ◌≤◌, ◌+◌, ◌^◌, ◌||◌, ℕ, Bool, true, false, cond, bytes_eq, BTreeMap, List, [], ◌∷◌, length, take, get_or, Option, Some, unwrap_or, refl, sym, ap, subst, ◌∙◌, arith}
use Rattle.std.specs.BTreeMap.{UpdatesBy}
use Rattle.std.specs.Cmp.Lexicographic.{slice_cmp, nat_list_cmp_total}
use Rattle.std.specs.List.{list_any}
use Rattle.std.specs.List.Sorted.{IsStrictlySortedBy}
use Rattle.std.specs.Ordering.{nat_cmp, ordering_reverse}
use Rattle.std.specs.declared.cmp.Ordering.TheVariants.{Less, Greater}
use Rattle.std.proofs.lemmas.List.Folds.{list_any_more}
use Rattle.std.proofs.lemmas.Map.Text.{is_eq-slice_cmp}
use Rattle.std.proofs.lemmas.Slice.Eq.{bytes_eq-Decides}
use Rattle.rpki_rules.specs.Words.{Mem, NoRepeat}
use Rattle.rpki_rules.proofs.Lists.{any_mem}
use Rattle.rpki_rules.proofs.Orders.{sorted_head, sorted_tail}
use Rattle.rpki_walk.specs.Tallied.{Adds, Bumps, told}
use Rattle.rpki_walk.proofs.Tallies.{apart_take, map_same}

-- A map that has one more at one authority.
pub bumped : (old new : BTreeMap (List ℕ) ℕ) (key uri : List ℕ) (v n : ℕ) → key ≡ uri → v ≡ n → UpdatesBy (slice_cmp nat_cmp) (slice_cmp nat_cmp key) old new (Some v) → (u : List ℕ) → told new u ≡ cond (bytes_eq uri u) (Some n) (told old u)
bumped old new key uri v n e f h u =
    h.0 u
    ∙ (ap (λ (b : Bool). cond b (Some v) (told old u)) (is_eq-slice_cmp key u ∙ ap (λ (k : List ℕ). bytes_eq k u) e)
    ∙ ap (λ (m : ℕ). cond (bytes_eq uri u) (Some m) (told old u)) f)

-- The next of a list without repeats isn't before itself.
not_yet : (us : List (List ℕ)) (i : ℕ) (d : List ℕ) → i < length us → NoRepeat us → list_any (λ one. bytes_eq one (get_or us i d)) (take i us) ≡ false
not_yet us i d l once = go (list_any (λ one. bytes_eq one (get_or us i d)) (take i us)) refl
  where
    go : (b : Bool) → list_any (λ one. bytes_eq one (get_or us i d)) (take i us) ≡ b → b ≡ false
    go false e = refl
    go true e =
        let h = any_mem (λ one. bytes_eq one (get_or us i d)) (take i us) e in
        absurd (apart_take (λ v. v) us i d (subst NoRepeat (sym (map_same us)) once) l h.0 h.1 ((bytes_eq-Decides h.0 (get_or us i d)).0 h.2))

or_false : (b : Bool) → b ≡ (b || false)
or_false true = refl
or_false false = refl

-- One more at the next of a list.
pub added_next : (old mid new : BTreeMap (List ℕ) ℕ) (us : List (List ℕ)) (i : ℕ) (d : List ℕ) (spent : ℕ) → i < length us → NoRepeat us → ((u : List ℕ) → unwrap_or (told old u) 0 ≤ spent) → spent + 1 < 2 ^ 64 → Adds old mid (take i us) → (unwrap_or (told mid (get_or us i d)) 0 + 1 < 2 ^ 64 → Bumps mid new (get_or us i d)) → Adds old new (take (i + 1) us)
added_next old mid new us i d spent l once few room h b u =
    b (omega (arith, same_number, few x, room)) u ∙ (by_case (bytes_eq x u) refl ∙ ap (λ (t : Bool). cond t (Some (unwrap_or (told old u) 0 + 1)) (told old u)) (sym (list_any_more (λ one. bytes_eq one u) us i d l)))
  where
    x : List ℕ
    x = get_or us i d

    same : told mid x ≡ told old x
    same = h x ∙ ap (λ (t : Bool). cond t (Some (unwrap_or (told old x) 0 + 1)) (told old x)) (not_yet us i d l once)

    same_number : unwrap_or (told mid x) 0 ≡ unwrap_or (told old x) 0
    same_number = ap (λ (o : Option ℕ). unwrap_or o 0) same

    by_case : (t : Bool) → bytes_eq x u ≡ t → cond t (Some (unwrap_or (told mid x) 0 + 1)) (told mid u) ≡ cond (list_any (λ one. bytes_eq one u) (take i us) || t) (Some (unwrap_or (told old u) 0 + 1)) (told old u)
    by_case true e =
        let is : x ≡ u = (bytes_eq-Decides x u).0 e in
        let none : list_any (λ one. bytes_eq one u) (take i us) ≡ false = subst (λ (v : List ℕ). list_any (λ one. bytes_eq one v) (take i us) ≡ false) is (not_yet us i d l once) in
        let number : unwrap_or (told mid x) 0 ≡ unwrap_or (told old u) 0 = same_number ∙ ap (λ (v : List ℕ). unwrap_or (told old v) 0) is in
        ap (λ (n : ℕ). Some (n + 1)) number ∙ ap (λ (t : Bool). cond (t || true) (Some (unwrap_or (told old u) 0 + 1)) (told old u)) (sym none)
    by_case false e = h u ∙ ap (λ (t : Bool). cond t (Some (unwrap_or (told old u) 0 + 1)) (told old u)) (or_false (list_any (λ one. bytes_eq one u) (take i us)))

-- A list that ascends has none twice.
pub once_sorted : (xs : List (List ℕ)) → IsStrictlySortedBy (slice_cmp nat_cmp) xs → NoRepeat xs
once_sorted [] s = tt
once_sorted (x ∷ xs) s = (again, once_sorted xs (sorted_tail (slice_cmp nat_cmp) x xs s))
  where
    again : ¬ (Mem xs x)
    again m =
        let h : slice_cmp nat_cmp x x ≡ Less = sorted_head (slice_cmp nat_cmp) x xs s x m in
        let z : Less ≡ Greater = sym h ∙ (nat_list_cmp_total.antisymm x x ∙ ap ordering_reverse h) in absurd cc
