-- A world has one output: lists in order are given by their members.
use Rattle.std.proofs.Common.{◌≡◌, ℕ, ◌<◌, ◌↔◌, List, [], ◌∷◌, ◌++◌, map, inl, inr, refl, sym, ap, subst, ◌∙◌, arith}
use Rattle.std.specs.Prelude.{flat_map}
use Rattle.std.specs.List.{AllByRecursion}
use Rattle.std.specs.List.Sorted.{IsStrictlySortedBy}
use Rattle.std.specs.Ordering.{nat_cmp, ordering_then, ordering_reverse}
use Rattle.std.specs.Cmp.{nat_cmp_total, then_flip}
use Rattle.std.specs.Cmp.Lexicographic.{nat_list_cmp_total}
use Rattle.std.specs.declared.cmp.Ordering.{Ordering}
use Rattle.std.specs.declared.cmp.Ordering.TheVariants.{Less, Greater}
use Rattle.rpki_rules.specs.Words.{Mem, Each, Ascending}
use Rattle.rpki_rules.specs.World.{World}
use Rattle.rpki_rules.specs.Attests.{Origin, AttestsProvision}
use Rattle.rpki_rules.specs.Lines.{Customer, Refusal, origin_line, origin_cmp, family_place, customer_line, refusal_line, refusal_cmp, cause_text}
use Rattle.rpki_rules.specs.Output.{IsCustomer, AreCustomers}
use Rattle.rpki_rules.specs.Laws.{OneOutput}
use Rattle.rpki_rules.proofs.Orders.{mem_map, each_at}

-- Each stands before all after it.
Sorted : {X : Type 0} → (X → X → Type 0) → List X → Type 0
Sorted R [] = Unit {0}
Sorted R (x ∷ xs) = Each (R x) xs × Sorted R xs

-- Where no two stand before each other, sorted lists of the same members are one.
module _ {X : Type 0} (R : X → X → Type 0) (apart : (x y : X) → R x y → R y x → ⊥) where
  one_list : (xs ys : List X) → Sorted R xs → Sorted R ys → ((x : X) → Mem xs x ↔ Mem ys x) → xs ≡ ys
  unfolding Sorted
  one_list [] [] s t e = refl
  one_list [] (y ∷ ys) s t e = absurd ((e y).1 (inl refl))
  one_list (x ∷ xs) [] s t e = absurd ((e x).0 (inl refl))
  one_list (x ∷ xs) (y ∷ ys) s t e =
      let q : x ≡ y = heads ((e x).0 (inl refl)) ((e y).1 (inl refl)) in
      let r : xs ≡ ys = one_list xs ys s.1 t.1 (λ z. (λ m. behind x y xs ys z (sym q) s.0 m ((e z).0 (inr m)), λ m. behind y x ys xs z q t.0 m ((e z).1 (inr m)))) in
      λ i. q i ∷ r i
    where
      heads : Mem (y ∷ ys) x → Mem (x ∷ xs) y → x ≡ y
      heads (inl a) b = sym a
      heads (inr a) (inl b) = b
      heads (inr a) (inr b) = absurd (apart x y (each_at (R x) xs y s.0 b) (each_at (R y) ys x t.0 a))

      behind : (x y : X) (xs ys : List X) (z : X) → y ≡ x → Each (R x) xs → Mem xs z → Mem (y ∷ ys) z → Mem ys z
      behind x y xs ys z q each m (inl a) = let b : x ≡ z = sym q ∙ a in let l : R x z = each_at (R x) xs z each m in absurd (apart x z l (subst (λ (u : X). R z u) (sym b) (subst (λ (u : X). R u z) b l)))
      behind x y xs ys z q each m (inr a) = a

each_less : {X : Type 0} (cmp : X → X → Ordering) (x : X) (xs : List X) → AllByRecursion (λ y. cmp x y ≡ Less) xs → Each (λ y. cmp x y ≡ Less) xs
each_less cmp x [] h = tt
each_less cmp x (y ∷ ys) h = (h.0, each_less cmp x ys h.1)

sorted_by : {X : Type 0} (cmp : X → X → Ordering) (xs : List X) → IsStrictlySortedBy cmp xs → Sorted (λ x y. cmp x y ≡ Less) xs
unfolding Sorted IsStrictlySortedBy
sorted_by cmp [] h = tt
sorted_by cmp (x ∷ xs) h = (each_less cmp x xs h.0, sorted_by cmp xs h.1)

-- An order that turns with its arguments puts no two before each other.
never_both : {X : Type 0} (cmp : X → X → Ordering) → ((x y : X) → cmp x y ≡ ordering_reverse (cmp y x)) → (x y : X) → cmp x y ≡ Less → cmp y x ≡ Less → ⊥
never_both cmp turns x y h k = let z : Less ≡ Greater = sym h ∙ (turns x y ∙ ap ordering_reverse k) in absurd cc

flips : (a b c d : Ordering) → a ≡ ordering_reverse c → b ≡ ordering_reverse d → ordering_then a b ≡ ordering_reverse (ordering_then c d)
flips a b c d p q = (λ i. ordering_then (p i) (q i)) ∙ then_flip c d

numbers_turn : (m n : ℕ) → nat_cmp m n ≡ ordering_reverse (nat_cmp n m)
numbers_turn = nat_cmp_total.antisymm

origins_turn : (x y : Origin) → origin_cmp x y ≡ ordering_reverse (origin_cmp y x)
origins_turn x y =
    flips _ _ _ _ (numbers_turn (family_place x.kind) (family_place y.kind))
    (flips _ _ _ _ (numbers_turn x.addr y.addr)
    (flips _ _ _ _ (numbers_turn x.len y.len)
    (flips _ _ _ _ (numbers_turn x.max_len y.max_len) (numbers_turn x.asn y.asn))))

refusals_turn : (r s : Refusal) → refusal_cmp r s ≡ ordering_reverse (refusal_cmp s r)
refusals_turn r s = flips _ _ _ _ (nat_list_cmp_total.antisymm r.name s.name) (nat_list_cmp_total.antisymm (cause_text r.cause) (cause_text s.cause))

-- Lists that are strictly sorted and have the same members are one.
one_sorted : {X : Type 0} (cmp : X → X → Ordering) → ((x y : X) → cmp x y ≡ ordering_reverse (cmp y x)) → (P : X → Type 0) (xs ys : List X) → IsStrictlySortedBy cmp xs → IsStrictlySortedBy cmp ys → ((x : X) → Mem xs x ↔ P x) → ((x : X) → Mem ys x ↔ P x) → xs ≡ ys
one_sorted cmp turns P xs ys s t e f =
    one_list (λ x y. cmp x y ≡ Less) (never_both cmp turns) xs ys (sorted_by cmp xs s) (sorted_by cmp ys t) (λ x. (λ m. (f x).1 ((e x).0 m), λ m. (e x).1 ((f x).0 m)))

ascending_sorted : (ns : List ℕ) → Ascending ns → Sorted (λ m n. m < n) ns
unfolding Sorted
ascending_sorted [] h = tt
ascending_sorted (n ∷ ns) h = (h.0, ascending_sorted ns h.1)

one_ascending : (ms ns : List ℕ) → Ascending ms → Ascending ns → ((n : ℕ) → Mem ms n ↔ Mem ns n) → ms ≡ ns
one_ascending ms ns s t e = one_list (λ m n. m < n) (λ m n l k. omega arith) ms ns (ascending_sorted ms s) (ascending_sorted ns t) e

each_mapped : (c : Customer) (cs : List Customer) → Each (λ n. c.number < n) (map (λ (d : Customer). d.number) cs) → Each (λ (d : Customer). c.number < d.number) cs
each_mapped c [] h = tt
each_mapped c (d ∷ ds) h = (h.0, each_mapped c ds h.1)

customers_sorted : (cs : List Customer) → Ascending (map (λ (c : Customer). c.number) cs) → Sorted (λ (c d : Customer). c.number < d.number) cs
unfolding Sorted
customers_sorted [] h = tt
customers_sorted (c ∷ cs) h = (each_mapped c cs h.0, customers_sorted cs h.1)

-- Some member of a list that isn't empty.
some_member : (ps : List ℕ) → (ps ≡ [] → ⊥) → (p : ℕ) × Mem ps p
some_member [] some = absurd (some refl)
some_member (p ∷ ps) some = (p, inl refl)

-- The customer with that number has the same providers in both worlds.
abbrev pub HasAlike : World → World → ℕ → Type 0
HasAlike w w' number = (p : ℕ) → AttestsProvision w (record { customer = number; provider = p }) ↔ AttestsProvision w' (record { customer = number; provider = p })

same_customer : (w w' : World) (c d : Customer) → c.number ≡ d.number → HasAlike w w' c.number → IsCustomer w c → IsCustomer w' d → c ≡ d
same_customer w w' c d e a h k =
    let P : ℕ → ℕ → Type 0 = λ (number provider : ℕ). AttestsProvision w' (record { customer = number; provider = provider }) in
    let q : c.providers ≡ d.providers = one_ascending c.providers d.providers h.ascending k.ascending (λ p. (
      λ m. (k.exact p).1 (subst (λ (n : ℕ). P n p) e ((a p).0 ((h.exact p).0 m))),
      λ m. (h.exact p).1 ((a p).1 (subst (λ (n : ℕ). P n p) (sym e) ((k.exact p).0 m))),
    )) in
    λ i. record { number = e i; providers = q i }

-- So it stands among the customers of the other world too.
pub in_other : (w w' : World) (cs ds : List Customer) → AreCustomers w cs → AreCustomers w' ds → (c : Customer) → HasAlike w w' c.number → Mem cs c → Mem ds c
in_other w w' cs ds h k c a m =
    let is = each_at (IsCustomer w) cs c h.each m in
    let p = some_member c.providers is.some in
    let at = (mem_map (λ (d : Customer). d.number) ds c.number).0 (k.complete (record { customer = c.number; provider = p.0 }) ((a p.0).0 ((is.exact p.0).0 p.1))) in
    subst (Mem ds) (sym (same_customer w w' c at.0 (sym at.2) a is (each_at (IsCustomer w') ds at.0 k.each at.1))) at.1

one_customers : (w : World) (cs ds : List Customer) → AreCustomers w cs → AreCustomers w ds → cs ≡ ds
one_customers w cs ds h k =
    one_list (λ (c d : Customer). c.number < d.number) (λ c d l n. omega arith) cs ds (customers_sorted cs h.ascending) (customers_sorted ds k.ascending)
    (λ c. (in_other w w cs ds h k c (λ p. (λ x. x, λ x. x)), in_other w w ds cs k h c (λ p. (λ x. x, λ x. x))))

pub one_output : OneOutput
one_output w o p h k =
    let a : h.origins ≡ k.origins = one_sorted origin_cmp origins_turn _ h.origins k.origins h.origins_are.ascend k.origins_are.ascend h.origins_are.exact k.origins_are.exact in
    let b : h.customers ≡ k.customers = one_customers w h.customers k.customers h.customers_are k.customers_are in
    let c : h.refusals ≡ k.refusals = one_sorted refusal_cmp refusals_turn _ h.refusals k.refusals h.refusals_are.ascend k.refusals_are.ascend h.refusals_are.exact k.refusals_are.exact in
    h.whole ∙ ((λ i. flat_map origin_line (a i) ++ (flat_map customer_line (b i) ++ flat_map refusal_line (c i))) ∙ sym k.whole)
