-- Lists that are gone through one by one.
use Rattle.std.proofs.Common.{◌≡◌, ℕ, zero, suc, List, [], ◌∷◌, ◌++◌, Some, length, refl, sym, subst, inl, inr, arith}
use Rattle.std.specs.Prelude.{◌↔◌, ◌⊎◌}
use Rattle.std.specs.List.{AllZip, slice_get}
use Rattle.std.proofs.lemmas.Option.{same_Some}
use Rattle.certs_verify.specs.certs_basics.Lists.{Each, Mem}
use Rattle.objects_rta_valid.specs.Vouched.{Has}

pub each_more : {X : Type 0} (P : X → Type 0) (xs others : List X) (x : X) (W : Type 0) → xs ≡ x ∷ others → P x → (Each P xs ↔ W) → (Each P others ↔ W)
each_more P xs others x W e p h = ((λ a. h.0 (subst (Each P) (sym e) (p, a))), (λ w. (subst (Each P) e (h.1 w)).1))

pub each_stops : {X : Type 0} (P : X → Type 0) (xs others : List X) (x : X) (W : Type 0) → xs ≡ x ∷ others → (P x → ⊥) → (Each P xs ↔ W) → W → ⊥
each_stops P xs others x W e none h = λ w. none (subst (Each P) e (h.1 w)).0

pub each_ends : {X : Type 0} (P : X → Type 0) (xs : List X) (W : Type 0) → length xs ≡ 0 → (Each P xs ↔ W) → W
each_ends P [] W e h = h.0 tt
each_ends P (x ∷ xs) W e h = absurd (omega arith)

pub each_of : {X : Type 0} (P : X → Type 0) (xs : List X) (x : X) → Each P xs → Mem xs x → P x
each_of P [] x all m = absurd m
each_of P (y ∷ ys) x all (inl e) = subst P e all.0
each_of P (y ∷ ys) x all (inr m) = each_of P ys x all.1 m

pub each_by : {X : Type 0} (P : X → Type 0) (xs : List X) → ((x : X) → Mem xs x → P x) → Each P xs
each_by P [] f = tt
each_by P (x ∷ xs) f = (f x (inl refl), each_by P xs (λ y m. f y (inr m)))

pub mem_split : {X : Type 0} (xs ys : List X) (x : X) → Mem (xs ++ ys) x → Mem xs x ⊎ Mem ys x
mem_split [] ys x m = inr m
mem_split (y ∷ xs) ys x (inl e) = inl (inl e)
mem_split (y ∷ xs) ys x (inr m) = elim (mem_split xs ys x m) [ inl a ↦ inl (inr a) | inr b ↦ inr b ]

pub mem_left : {X : Type 0} (xs ys : List X) (x : X) → Mem xs x → Mem (xs ++ ys) x
mem_left [] ys x m = absurd m
mem_left (y ∷ xs) ys x (inl e) = inl e
mem_left (y ∷ xs) ys x (inr m) = inr (mem_left xs ys x m)

pub mem_right : {X : Type 0} (xs ys : List X) (x : X) → Mem ys x → Mem (xs ++ ys) x
mem_right [] ys x m = m
mem_right (y ∷ xs) ys x m = inr (mem_right xs ys x m)

-- The next of two lists at once.
pub zip_more : {A B : Type 0} (P : A → B → Type 0) (xs others : List A) (ys left : List B) (x : A) (y : B) (W : Type 0)
    → xs ≡ x ∷ others → ys ≡ y ∷ left → P x y → (AllZip P xs ys ↔ W) → (AllZip P others left ↔ W)
zip_more {A} {B} P xs others ys left x y W e f p h =
    let both : AllZip P xs ys ↔ W = h in
    let here : AllZip P (x ∷ others) (y ∷ left) ↔ W = subst (λ (zs : List B). AllZip P (x ∷ others) zs ↔ W) f (subst (λ (zs : List A). AllZip P zs ys ↔ W) e both) in
    ((λ a. here.0 (p, a)), (λ w. (here.1 w).1))

pub zip_stops : {A B : Type 0} (P : A → B → Type 0) (xs others : List A) (ys left : List B) (x : A) (y : B) (W : Type 0)
    → xs ≡ x ∷ others → ys ≡ y ∷ left → (P x y → ⊥) → (AllZip P xs ys ↔ W) → W → ⊥
zip_stops {A} {B} P xs others ys left x y W e f none h w =
    let here : AllZip P (x ∷ others) (y ∷ left) ↔ W = subst (λ (zs : List B). AllZip P (x ∷ others) zs ↔ W) f (subst (λ (zs : List A). AllZip P zs ys ↔ W) e h) in
    none (here.1 w).0

pub zip_short : {A B : Type 0} (P : A → B → Type 0) (xs others : List A) (ys : List B) (x : A) (W : Type 0)
    → xs ≡ x ∷ others → length ys ≡ 0 → (AllZip P xs ys ↔ W) → W → ⊥
zip_short {A} {B} P xs others [] x W e f h w = (subst (λ (zs : List A). AllZip P zs [] ↔ W) e h).1 w
zip_short P xs others (y ∷ ys) x W e f h w = absurd (omega arith)

pub zip_ends : {A B : Type 0} (P : A → B → Type 0) (xs : List A) (ys : List B) (W : Type 0)
    → length xs ≡ 0 → (AllZip P xs ys ↔ W) → (length ys ≡ 0 → W) × (W → length ys ≡ 0)
zip_ends P [] [] W e h = ((λ f. h.0 tt), (λ w. refl))
zip_ends P [] (y ∷ ys) W e h = ((λ f. absurd (omega arith)), (λ w. absurd (h.1 w)))
zip_ends P (x ∷ xs) ys W e h = absurd (omega arith)

-- What stands at one place of both.
pub zip_at : {A B : Type 0} (P : A → B → Type 0) (xs : List A) (ys : List B) (k : ℕ) (x : A) (y : B) → AllZip P xs ys → slice_get xs k ≡ Some x → slice_get ys k ≡ Some y → P x y
zip_at P [] ys k x y all e f = absurd cc
zip_at P (a ∷ xs) [] k x y all e f = absurd all
zip_at {A} P (a ∷ xs) (b ∷ ys) zero x y all e f = subst (λ (z : A). P z y) (same_Some a x e) (subst (P a) (same_Some b y f) all.0)
zip_at P (a ∷ xs) (b ∷ ys) (suc k) x y all e f = zip_at P xs ys k x y all.1 e f

pub zip_by : {A B : Type 0} (P : A → B → Type 0) (xs : List A) (ys : List B) → length ys ≡ length xs
    → ((k : ℕ) (x : A) (y : B) → slice_get xs k ≡ Some x → slice_get ys k ≡ Some y → P x y) → AllZip P xs ys
zip_by P [] [] e f = tt
zip_by P [] (y ∷ ys) e f = absurd (omega arith)
zip_by P (x ∷ xs) [] e f = absurd (omega arith)
zip_by P (x ∷ xs) (y ∷ ys) e f = (f zero x y refl refl, zip_by P xs ys (omega arith) (λ k a b g h. f (suc k) a b g h))

-- Some of a list.
pub has_more : {X : Type 0} (P : X → Type 0) (xs others : List X) (x : X) (W : Type 0) → xs ≡ x ∷ others → (P x → ⊥) → (Has P xs ↔ W) → (Has P others ↔ W)
has_more {X} P xs others x W e none h =
    let here : Has P (x ∷ others) ↔ W = subst (λ (zs : List X). Has P zs ↔ W) e h in (
      (λ a. here.0 (record { one = a.one; among = inr a.among; is = a.is })),
      (λ w. let s = here.1 w in behind s.one s.is s.among),
    )
  where
    behind : (y : X) → P y → Mem (x ∷ others) y → Has P others
    behind y p (inl f) = absurd (none (subst P (sym f) p))
    behind y p (inr m) = record { one = y; among = m; is = p }

pub has_here : {X : Type 0} (P : X → Type 0) (xs others : List X) (x : X) (W : Type 0) → xs ≡ x ∷ others → P x → (Has P xs ↔ W) → W
has_here {X} P xs others x W e p h = (subst (λ (zs : List X). Has P zs ↔ W) e h).0 (record { one = x; among = inl refl; is = p })

pub has_none : {X : Type 0} (P : X → Type 0) (xs : List X) (W : Type 0) → length xs ≡ 0 → (Has P xs ↔ W) → W → ⊥
has_none P [] W e h w = (h.1 w).among
has_none P (x ∷ xs) W e h w = absurd (omega arith)
