-- Members of lists, and lists in order.
use Rattle.std.proofs.Common.{◌≡◌, ℕ, zero, suc, ◌<◌, ◌⊎◌, ◌↔◌, List, [], ◌∷◌, ◌++◌, length, map, get_or, refl, sym, ap, subst, ◌∙◌, inl, inr, arith, Contains}
use Rattle.std.specs.declared.cmp.Ordering.{Ordering}
use Rattle.std.specs.declared.cmp.Ordering.TheVariants.{Less}
use Rattle.std.specs.List.{AllByRecursion}
use Rattle.std.specs.List.Sorted.{IsStrictlySortedBy}
use Rattle.rpki_rules.specs.Words.{Mem, Each}

pub mem_append : {X : Type 0} (xs ys : List X) (x : X) → Mem (xs ++ ys) x ↔ (Mem xs x ⊎ Mem ys x)
mem_append [] ys x = (λ h. inr h, λ h. elim h [ inl n ↦ elim n [ ] | inr m ↦ m ])
mem_append (z ∷ xs) ys x = let h = mem_append xs ys x in (
  λ m. elim m [ inl e ↦ inl (inl e) | inr k ↦ elim (h.0 k) [ inl a ↦ inl (inr a) | inr b ↦ inr b ] ],
  λ m. elim m [ inl a ↦ elim a [ inl e ↦ inl e | inr k ↦ inr (h.1 (inl k)) ] | inr b ↦ inr (h.1 (inr b)) ],
)

pub mem_map : {X Y : Type 0} (f : X → Y) (xs : List X) (y : Y) → Mem (map f xs) y ↔ ((x : X) × Mem xs x × (f x ≡ y))
mem_map f [] y = (λ m. absurd m, λ h. absurd h.1)
mem_map f (x ∷ xs) y = let h = mem_map f xs y in (
  λ m. elim m [ inl e ↦ (x, inl refl, e) | inr k ↦ let q = h.0 k in (q.0, inr q.1, q.2) ],
  λ q. elim q.1 [ inl e ↦ inl (ap f e ∙ q.2) | inr k ↦ inr (h.1 (q.0, k, q.2)) ],
)

mem_at : {X : Type 0} (xs : List X) (k : ℕ) (x : X) → k < length xs → get_or xs k x ≡ x → Mem xs x
mem_at [] k x l e = absurd (omega arith)
mem_at (y ∷ ys) zero x l e = inl e
mem_at (y ∷ ys) (suc k) x l e = inr (mem_at ys k x (let m : suc k < suc (length ys) = l in omega arith) e)

pub mem_of_contains : {X : Type 0} (xs : List X) (x : X) → Contains xs x → Mem xs x
mem_of_contains xs x h = mem_at xs h.0 x h.1 h.2

pub contains_of_mem : {X : Type 0} (xs : List X) (x : X) → Mem xs x → Contains xs x
contains_of_mem [] x m = elim m [ ]
contains_of_mem (y ∷ ys) x (inl e) = (0, omega arith, e)
contains_of_mem (y ∷ ys) x (inr m) = let h = contains_of_mem ys x m in (suc h.0, (let l : h.0 < length ys = h.1 in omega arith), h.2)

pub each_at : {X : Type 0} (P : X → Type 0) (xs : List X) (x : X) → Each P xs → Mem xs x → P x
each_at P [] x e m = elim m [ ]
each_at P (y ∷ ys) x e (inl q) = subst P q e.0
each_at P (y ∷ ys) x e (inr m) = each_at P ys x e.1 m

pub each_of : {X : Type 0} (P : X → Type 0) (xs : List X) → ((x : X) → Mem xs x → P x) → Each P xs
each_of P [] h = tt
each_of P (x ∷ xs) h = (h x (inl refl), each_of P xs (λ y m. h y (inr m)))

pub all_at : {X : Type 0} (P : X → Type 0) (xs : List X) (x : X) → AllByRecursion P xs → Mem xs x → P x
all_at P [] x e m = elim m [ ]
all_at P (y ∷ ys) x e (inl q) = subst P q e.0
all_at P (y ∷ ys) x e (inr m) = all_at P ys x e.1 m

all_map : {X Y : Type 0} (f : X → Y) (P : X → Type 0) (Q : Y → Type 0) → ((x : X) → P x → Q (f x)) → (xs : List X) → AllByRecursion P xs → AllByRecursion Q (map f xs)
all_map f P Q h [] a = tt
all_map f P Q h (x ∷ xs) a = (h x a.0, all_map f P Q h xs a.1)

-- An order of what is seen of values.
pub sorted_map : {X Y : Type 0} (f : X → Y) (C : X → X → Ordering) (R : Y → Y → Ordering) → ((x y : X) → C x y ≡ R (f x) (f y)) → (xs : List X) → IsStrictlySortedBy C xs → IsStrictlySortedBy R (map f xs)
unfolding IsStrictlySortedBy
sorted_map f C R e [] s = tt
sorted_map f C R e (x ∷ xs) s = (all_map f (λ y. C x y ≡ Less) (λ y. R (f x) y ≡ Less) (λ y h. sym (e x y) ∙ h) xs s.0, sorted_map f C R e xs s.1)

pub sorted_head : {X : Type 0} (R : X → X → Ordering) (x : X) (xs : List X) → IsStrictlySortedBy R (x ∷ xs) → (y : X) → Mem xs y → R x y ≡ Less
unfolding IsStrictlySortedBy
sorted_head R x xs s y m = all_at (λ z. R x z ≡ Less) xs y s.0 m

pub sorted_tail : {X : Type 0} (R : X → X → Ordering) (x : X) (xs : List X) → IsStrictlySortedBy R (x ∷ xs) → IsStrictlySortedBy R xs
unfolding IsStrictlySortedBy
sorted_tail R x xs s = s.1

-- Of two lists that ascend as one, each ascends, and all of the first stand before all of the second.
pub sorted_behind : {X : Type 0} (R : X → X → Ordering) (xs ys : List X) → IsStrictlySortedBy R (xs ++ ys) → IsStrictlySortedBy R ys
sorted_behind R [] ys s = s
sorted_behind R (x ∷ xs) ys s = sorted_behind R xs ys (sorted_tail R x (xs ++ ys) s)

pub sorted_across : {X : Type 0} (R : X → X → Ordering) (xs ys : List X) → IsStrictlySortedBy R (xs ++ ys) → (x y : X) → Mem xs x → Mem ys y → R x y ≡ Less
sorted_across R [] ys s x y m n = elim m [ ]
sorted_across R (z ∷ xs) ys s x y (inl e) n = subst (λ u. R u y ≡ Less) e (sorted_head R z (xs ++ ys) s y ((mem_append xs ys y).1 (inr n)))
sorted_across R (z ∷ xs) ys s x y (inr m) n = sorted_across R xs ys (sorted_tail R z (xs ++ ys) s) x y m n
