-- Members of lists, and of what is held along a chain.
use Rattle.std.proofs.Common.{◌≡◌, ℕ, ◌⊎◌, ◌||◌, Bool, true, false, List, [], ◌∷◌, ◌++◌, map, inl, inr, refl, sym, ap, subst, ◌∙◌}
use Rattle.std.specs.List.{list_any}
use Rattle.rpki_rules.specs.resources_chain.Claims.{Choice, Lists, Keeps}
use Rattle.rpki_rules.specs.resources_chain.declared.choice.ResourcesChoice.TheVariants.{Missing, Inherit, Blocks}
use Rattle.rpki_rules.specs.Words.{Mem}
use Rattle.rpki_rules.specs.Kinds.{Kind, claim}
use Rattle.rpki_rules.specs.Points.{Link}
use Rattle.rpki_rules.specs.Chains.{last_of, IsFront, Holds}

pub map_mem : {X Y : Type 0} (f : X → Y) (xs : List X) (x : X) → Mem xs x → Mem (map f xs) (f x)
map_mem f [] x m = absurd m
map_mem f (y ∷ xs) x (inl e) = inl (ap f e)
map_mem f (y ∷ xs) x (inr m) = inr (map_mem f xs x m)

pub holds_front : (a : Link) (ds cs : List Link) (k : Kind) (n : ℕ) → IsFront cs ds → Holds a ds k n → Holds a cs k n
holds_front a [] cs k n f h = subst (λ xs. Holds a xs k n) (sym f) h
holds_front a (d ∷ ds) cs k n (inl e) h = subst (λ xs. Holds a xs k n) (sym e) h
holds_front a (d ∷ ds) cs k n (inr f) h = holds_front a ds cs k n f h.1

keeps_lists : (c : Choice) (n : ℕ) → Lists c n → Keeps c n
keeps_lists Missing n l = l
keeps_lists Inherit n l = tt
keeps_lists (Blocks runs) n l = l

-- What a chain holds each of its certificates lists or inherits.
pub kept_on : (a : Link) (cs : List Link) (k : Kind) (n : ℕ) → Holds a cs k n → (c : Link) → Mem (cs ++ a ∷ []) c → Keeps (claim c.cert k) n
kept_on a [] k n h c (inl e) = subst (λ (d : Link). Keeps (claim d.cert k) n) e (keeps_lists (claim a.cert k) n h)
kept_on a [] k n h c (inr m) = absurd m
kept_on a (d ∷ ds) k n h c (inl e) = subst (λ (d : Link). Keeps (claim d.cert k) n) e h.0
kept_on a (d ∷ ds) k n h c (inr m) = kept_on a ds k n h.1 c m

pub last_in : (a : Link) (cs : List Link) → Mem (cs ++ a ∷ []) (last_of a cs)
last_in a [] = inl refl
last_in a (c ∷ cs) = inl refl

or_cases : (a b : Bool) → a || b ≡ true → (a ≡ true) ⊎ (b ≡ true)
or_cases true b e = inl refl
or_cases false b e = inr e

or_left : (a b : Bool) → a ≡ true → a || b ≡ true
or_left true b e = refl
or_left false b e = absurd cc

or_right : (a b : Bool) → b ≡ true → a || b ≡ true
or_right true b e = refl
or_right false b e = e

-- A test that some member of a list passes.
pub any_mem : {X : Type 0} (p : X → Bool) (xs : List X) → list_any p xs ≡ true → (x : X) × Mem xs x × (p x ≡ true)
any_mem p [] e = absurd cc
any_mem p (x ∷ xs) e = elim (or_cases (p x) (list_any p xs) e) [
  | inl h ↦ (x, inl refl, h)
  | inr h ↦ let g = any_mem p xs h in (g.0, inr g.1, g.2)
]

pub mem_any : {X : Type 0} (p : X → Bool) (xs : List X) (x : X) → Mem xs x → p x ≡ true → list_any p xs ≡ true
mem_any p [] x m e = absurd m
mem_any p (y ∷ ys) x (inl q) e = or_left (p y) (list_any p ys) (ap p q ∙ e)
mem_any p (y ∷ ys) x (inr m) e = or_right (p y) (list_any p ys) (mem_any p ys x m e)
