-- Provisions gathered by customer.
use Rattle.std.proofs.Common.{◌≡◌, ◌≢◌, ℕ, ◌<◌, ◌≤◌, ◌⊎◌, ◌↔◌, List, [], ◌∷◌, ◌++◌, map, flat_map, refl, sym, ap, subst, ◌∙◌, inl, inr, arith, append_assoc, length, Option, Some, None, MatchOption}
use Rattle.std.specs.declared.cmp.Ordering.{Ordering}
use Rattle.std.specs.declared.cmp.Ordering.TheVariants.{Less, Equal, Greater}
use Rattle.std.specs.Ordering.{nat_cmp, ordering_then, MatchOrdering}
use Rattle.std.specs.List.Sorted.{IsStrictlySortedBy}
use Rattle.std.proofs.lemmas.Cmp.{ranked}
use Rattle.rpki_rules.specs.Words.{Mem, Ascending}
use Rattle.rpki_rules.specs.Attests.{Provision}
use Rattle.rpki_rules.specs.Lines.{Customer}
use Rattle.rpki_rules.specs.resources_asn.declared.asn.Asn.{Asn}
use Rattle.rpki_rules.specs.declared.customer.Customer.{Customer as CodeCustomer}
use Rattle.rpki_rules.specs.declared.customer.Provision.{Provision as CodeProvision}
use Rattle.rpki_rules.specs.Views.{provision_of, customer_of, provision_cmp}
use Rattle.rpki_rules.specs.Groups.{provisions_of, AllSome, DiffersFromNext, SideBySide, Gathers}
use Rattle.rpki_rules.specs.Report.{IsCustomerOf, AreCustomersOf}
use Rattle.rpki_rules.proofs.Orders.{mem_append, mem_map, each_at, each_of, sorted_head, sorted_tail, sorted_behind, sorted_across}

pub gathers_none : Gathers [] []
gathers_none = record { whole = refl; some = tt; apart = tt }

flat_append : (cs ds : List Customer) → flat_map provisions_of (cs ++ ds) ≡ flat_map provisions_of cs ++ flat_map provisions_of ds
flat_append [] ds = refl
flat_append (c ∷ cs) ds = ap (λ (xs : List Provision). provisions_of c ++ xs) (flat_append cs ds) ∙ sym (append_assoc (provisions_of c) (flat_map provisions_of cs) (flat_map provisions_of ds))

some_push : (cs : List Customer) (d : Customer) → AllSome cs → d.providers ≢ [] → AllSome (cs ++ d ∷ [])
some_push [] d s n = (n, tt)
some_push (c ∷ cs) d s n = (s.0, some_push cs d s.1 n)

some_front : (cs : List Customer) (d : Customer) → AllSome (cs ++ d ∷ []) → AllSome cs
some_front [] d s = tt
some_front (c ∷ cs) d s = (s.0, some_front cs d s.1)

-- A customer of another number after the last.
apart_push : (cs : List Customer) (c d : Customer) → SideBySide (cs ++ c ∷ []) → c.number ≢ d.number → SideBySide ((cs ++ c ∷ []) ++ d ∷ [])
apart_push [] c d s n = (n, (tt, tt))
apart_push (x ∷ []) c d s n = (s.0, apart_push [] c d s.1 n)
apart_push (x ∷ y ∷ cs) c d s n = (s.0, apart_push (y ∷ cs) c d s.1 n)

-- Another customer of the last one's number in its place.
apart_same : (cs : List Customer) (c d : Customer) → SideBySide (cs ++ c ∷ []) → d.number ≡ c.number → SideBySide (cs ++ d ∷ [])
apart_same [] c d s e = (tt, tt)
apart_same (x ∷ []) c d s e = ((λ q. s.0 (q ∙ e)), apart_same [] c d s.1 e)
apart_same (x ∷ y ∷ cs) c d s e = (s.0, apart_same (y ∷ cs) c d s.1 e)

pub map_push : {X Y : Type 0} (f : X → Y) (xs : List X) (y : X) → map f (xs ++ y ∷ []) ≡ map f xs ++ f y ∷ []
map_push f [] y = refl
map_push f (x ∷ xs) y = ap (λ zs. f x ∷ zs) (map_push f xs y)

pub not_empty : {X : Type 0} (xs : List X) (x : X) → xs ++ x ∷ [] ≢ []
not_empty [] x e = absurd cc
not_empty (y ∷ xs) x e = absurd cc

flat_last : (cs : List Customer) (c : Customer) → flat_map provisions_of (cs ++ c ∷ []) ≡ flat_map provisions_of cs ++ provisions_of c
flat_last [] c = append_nil (provisions_of c)
  where
    append_nil : (xs : List Provision) → xs ++ [] ≡ xs
    append_nil [] = refl
    append_nil (x ∷ xs) = ap (λ ys. x ∷ ys) (append_nil xs)
flat_last (d ∷ cs) c = ap (λ (xs : List Provision). provisions_of d ++ xs) (flat_last cs c) ∙ sym (append_assoc (provisions_of d) (flat_map provisions_of cs) (provisions_of c))

-- The first of all.
pub adds_first : (p : Provision) (c : Customer) → c ≡ record { number = p.customer; providers = p.provider ∷ [] } → (pairs : List Provision) → Gathers pairs [] → Gathers (pairs ++ p ∷ []) (c ∷ [])
adds_first p c e pairs g = subst (λ (d : Customer). Gathers (pairs ++ p ∷ []) (d ∷ [])) (sym e) (record { whole = ap (λ (xs : List Provision). xs ++ p ∷ []) g.whole; some = ((λ q. absurd cc), tt); apart = (tt, tt) })

-- Of the last customer.
pub adds_same : (p : Provision) (cs : List Customer) (c d : Customer) → d.number ≡ c.number → d.providers ≡ c.providers ++ p.provider ∷ [] → c.number ≡ p.customer → (pairs : List Provision) → Gathers pairs (cs ++ c ∷ []) → Gathers (pairs ++ p ∷ []) (cs ++ d ∷ [])
adds_same p cs c d en ep eq pairs g =
    let de : d ≡ record { number = p.customer; providers = c.providers ++ p.provider ∷ [] } = λ i. record { number = (en ∙ eq) i; providers = ep i } in
    let pd : provisions_of d ≡ provisions_of c ++ p ∷ [] =
    ap provisions_of de ∙ (map_push (λ (q : ℕ). let y : Provision = record { customer = p.customer; provider = q } in y) c.providers p.provider ∙ ap (λ (n : ℕ). map (λ (q : ℕ). let y : Provision = record { customer = n; provider = q } in y) c.providers ++ p ∷ []) (sym eq)) in
    record {
      whole = ap (λ (xs : List Provision). xs ++ p ∷ []) (g.whole ∙ flat_last cs c) ∙ (append_assoc (flat_map provisions_of cs) (provisions_of c) (p ∷ []) ∙ (ap (λ (xs : List Provision). flat_map provisions_of cs ++ xs) (sym pd) ∙ sym (flat_last cs d)));
      some = some_push cs d (some_front cs c g.some) (λ e. not_empty c.providers p.provider (sym ep ∙ e));
      apart = apart_same cs c d g.apart en;
    }

-- Of another.
pub adds_other : (p : Provision) (cs : List Customer) (c d : Customer) → d ≡ record { number = p.customer; providers = p.provider ∷ [] } → c.number ≢ p.customer → (pairs : List Provision) → Gathers pairs (cs ++ c ∷ []) → Gathers (pairs ++ p ∷ []) ((cs ++ c ∷ []) ++ d ∷ [])
adds_other p cs c d e n pairs g =
    let k : Customer = record { number = p.customer; providers = p.provider ∷ [] } in
    subst (λ (z : Customer). Gathers (pairs ++ p ∷ []) ((cs ++ c ∷ []) ++ z ∷ [])) (sym e) (record {
      whole = ap (λ (xs : List Provision). xs ++ p ∷ []) g.whole ∙ sym (flat_last (cs ++ c ∷ []) k);
      some = some_push (cs ++ c ∷ []) k g.some (λ q. absurd cc);
      apart = apart_push cs c k g.apart n;
    })

-- What the order of provisions says of two.
cmp_parts : (x y : Provision) → provision_cmp x y ≡ Less → (x.customer < y.customer) ⊎ ((x.customer ≡ y.customer) × (x.provider < y.provider))
cmp_parts x y e = go (nat_cmp x.customer y.customer) (nat_cmp x.provider y.provider) (ranked x.customer y.customer (nat_cmp x.customer y.customer) refl) (ranked x.provider y.provider (nat_cmp x.provider y.provider) refl) e
  where
    go : (o p : Ordering) → MatchOrdering o (x.customer < y.customer) (x.customer ≡ y.customer) (y.customer < x.customer) → MatchOrdering p (x.provider < y.provider) (x.provider ≡ y.provider) (y.provider < x.provider) → ordering_then o p ≡ Less → (x.customer < y.customer) ⊎ ((x.customer ≡ y.customer) × (x.provider < y.provider))
    go Less p l m e = inl l
    go Equal Less l m e = inr (l, m)
    go Equal Equal l m e = absurd cc
    go Equal Greater l m e = absurd cc
    go Greater p l m e = absurd cc

in_provisions : (c : Customer) (x : Provision) → Mem (provisions_of c) x → (x.customer ≡ c.number) × Mem c.providers x.provider
in_provisions c x m =
    let h = (mem_map (λ (p : ℕ). let y : Provision = record { customer = c.number; provider = p } in y) c.providers x).0 m in
    (sym (ap (λ (y : Provision). y.customer) h.2), subst (λ (p : ℕ). Mem c.providers p) (ap (λ (y : Provision). y.provider) h.2) h.1)

provisions_in : (c : Customer) (p : ℕ) → Mem c.providers p → Mem (provisions_of c) (record { customer = c.number; provider = p })
provisions_in c p m = (mem_map (λ (q : ℕ). let y : Provision = record { customer = c.number; provider = q } in y) c.providers (record { customer = c.number; provider = p })).1 (p, m, refl)

in_flat : (cs : List Customer) (x : Provision) → Mem (flat_map provisions_of cs) x → (c : Customer) × Mem cs c × (x.customer ≡ c.number) × Mem c.providers x.provider
in_flat [] x m = absurd m
in_flat (c ∷ cs) x m = elim ((mem_append (provisions_of c) (flat_map provisions_of cs) x).0 m) [
  | inl a ↦ let h = in_provisions c x a in (c, inl refl, h.0, h.1)
  | inr b ↦ let h = in_flat cs x b in (h.0, inr h.1, h.2, h.3)
]

flat_in : (cs : List Customer) (c : Customer) (p : ℕ) → Mem cs c → Mem c.providers p → Mem (flat_map provisions_of cs) (record { customer = c.number; provider = p })
flat_in (d ∷ cs) c p (inl e) m = (mem_append (provisions_of d) (flat_map provisions_of cs) _).1 (inl (subst (λ (z : Customer). Mem (provisions_of z) (record { customer = c.number; provider = p })) (sym e) (provisions_in c p m)))
flat_in (d ∷ cs) c p (inr k) m = (mem_append (provisions_of d) (flat_map provisions_of cs) _).1 (inr (flat_in cs c p k m))
flat_in [] c p k m = absurd k

-- A list that isn't empty has a member.
some_of : (xs : List ℕ) → xs ≢ [] → (x : ℕ) × Mem xs x
some_of [] n = absurd (n refl)
some_of (x ∷ xs) n = (x, inl refl)

some_at : (cs : List Customer) (c : Customer) → AllSome cs → Mem cs c → c.providers ≢ []
some_at [] c a m = absurd m
some_at (d ∷ cs) c a (inl e) = subst (λ (z : Customer). z.providers ≢ []) e a.0
some_at (d ∷ cs) c a (inr m) = some_at cs c a.1 m

-- Provisions of one customer that ascend, whatever stands after them.
providers_ascend : (n : ℕ) (ps : List ℕ) (zs : List Provision) → IsStrictlySortedBy provision_cmp (map (λ (p : ℕ). let y : Provision = record { customer = n; provider = p } in y) ps ++ zs) → Ascending ps
providers_ascend n [] zs s = tt
providers_ascend n (p ∷ ps) zs s =
    let f : ℕ → Provision = λ q. record { customer = n; provider = q } in (
      each_of (λ m. p < m) ps (λ m k. elim (cmp_parts (f p) (f m) (sorted_head provision_cmp (f p) (map f ps ++ zs) s (f m) ((mem_append (map f ps) zs (f m)).1 (inl ((mem_map f ps (f m)).1 (m, k, refl)))))) [
        | inl l ↦ absurd (let h : n < n = l in omega arith)
        | inr r ↦ r.1
      ]),
      providers_ascend n ps zs (sorted_tail provision_cmp (f p) (map f ps ++ zs) s),
    )

less_all : (c : Customer) (cs : List Customer) → ((e : Customer) → Mem cs e → c.number ≤ e.number) → DiffersFromNext c cs → Ascending (map (λ (d : Customer). d.number) cs) → (e : Customer) → Mem cs e → c.number < e.number
less_all c [] le n asc e m = absurd m
less_all c (d ∷ cs) le n asc e (inl q) = subst (λ (z : Customer). c.number < z.number) q (let h : c.number ≤ d.number = le d (inl refl) in let k : c.number ≢ d.number = n in omega arith)
less_all c (d ∷ cs) le n asc e (inr m) =
    let h : c.number ≤ d.number = le d (inl refl) in
    let k : d.number < e.number = each_at (λ z. d.number < z) (map (λ (d : Customer). d.number) cs) e.number asc.0 ((mem_map (λ (d : Customer). d.number) cs e.number).1 (e, m, refl)) in
    omega arith

are : (cs : List Customer) → IsStrictlySortedBy provision_cmp (flat_map provisions_of cs) → AllSome cs → SideBySide cs → AreCustomersOf (Mem (flat_map provisions_of cs)) cs
are [] s a d = record { ascending = tt; each = tt; complete = λ x m. absurd m }
are (c ∷ cs) s a d =
    let ys : List Provision = provisions_of c in
    let zs : List Provision = flat_map provisions_of cs in
    let r : AreCustomersOf (Mem zs) cs = are cs (sorted_behind provision_cmp ys zs s) a.1 d.1 in
    let le : (e : Customer) → Mem cs e → c.number ≤ e.number = λ e m.
    let p = some_of c.providers a.0 in let q = some_of e.providers (some_at cs e a.1 m) in
    elim (cmp_parts (record { customer = c.number; provider = p.0 }) (record { customer = e.number; provider = q.0 }) (sorted_across provision_cmp ys zs s _ _ (provisions_in c p.0 p.1) (flat_in cs e q.0 m q.1))) [
      | inl l ↦ let h : c.number < e.number = l in omega arith
      | inr b ↦ let h : c.number ≡ e.number = b.0 in omega arith
    ] in
    let below = less_all c cs le d.0 r.ascending in
    record {
      ascending = (each_of (λ n. c.number < n) (map (λ (d : Customer). d.number) cs) (λ n m. let h = (mem_map (λ (d : Customer). d.number) cs n).0 m in subst (λ (k : ℕ). c.number < k) h.2 (below h.0 h.1)), r.ascending);
      each = (
        record {
          ascending = providers_ascend c.number c.providers zs s;
          some = a.0;
          exact = λ p. (
            λ m. (mem_append ys zs _).1 (inl (provisions_in c p m)),
            λ m. elim ((mem_append ys zs _).0 m) [
              | inl k ↦ (in_provisions c _ k).1
              | inr k ↦ let h = in_flat cs _ k in let l = below h.0 h.1 in let e : c.number ≡ h.0.number = h.2 in absurd (omega arith)
            ],
          );
        },
        each_of (IsCustomerOf (Mem (ys ++ zs))) cs (λ e m. let h = each_at (IsCustomerOf (Mem zs)) cs e r.each m in record {
          ascending = h.ascending;
          some = h.some;
          exact = λ p. (
            λ k. (mem_append ys zs _).1 (inr ((h.exact p).0 k)),
            λ k. elim ((mem_append ys zs _).0 k) [
              | inl q ↦ let l = below e m in let i : e.number ≡ c.number = (in_provisions c _ q).0 in absurd (omega arith)
              | inr q ↦ (h.exact p).1 q
            ],
          );
        }),
      );
      complete = λ x m. elim ((mem_append ys zs x).0 m) [ inl k ↦ inl (sym (in_provisions c x k).0) | inr k ↦ inr (r.complete x k) ];
    }

pub customers_are : (xs : List Provision) (cs : List Customer) → IsStrictlySortedBy provision_cmp xs → Gathers xs cs → AreCustomersOf (Mem xs) cs
customers_are xs cs s g =
    subst (λ (ys : List Provision). AreCustomersOf (Mem ys) cs) (sym g.whole) (are cs (subst (λ (ys : List Provision). IsStrictlySortedBy provision_cmp ys) g.whole s) g.some g.apart)

-- A set of provisions has the customers of the list that it is the set of.
pub customers_to : (P Q : Provision → Type 0) → ((x : Provision) → P x ↔ Q x) → (cs : List Customer) → AreCustomersOf P cs → AreCustomersOf Q cs
customers_to P Q e cs h = record {
  ascending = h.ascending;
  each = each_of (IsCustomerOf Q) cs (λ c m. let k = each_at (IsCustomerOf P) cs c h.each m in record { ascending = k.ascending; some = k.some; exact = λ p. (λ q. (e _).0 ((k.exact p).0 q), λ q. (k.exact p).1 ((e _).1 q)) });
  complete = λ x q. h.complete x ((e x).1 q);
}

empty_of : {X : Type 0} (xs : List X) → length xs ≡ 0 → xs ≡ []
empty_of [] e = refl
empty_of (x ∷ xs) e = absurd (omega arith)

-- A step of the loop that gathers, as the code takes it: the last customer comes out and goes back.
module _ (xs ys zs : List CodeCustomer) (pair : CodeProvision) (pairs : List Provision) (g : Gathers pairs (map customer_of xs)) where
  pub same_step : (last next : CodeCustomer) → xs ≡ zs ++ last ∷ [] → ys ≡ zs ++ next ∷ [] → next.number.value ≡ last.number.value → next.providers.items ≡ last.providers.items ++ pair.provider ∷ [] → last.number.value ≡ pair.customer.value → Gathers (pairs ++ provision_of pair ∷ []) (map customer_of ys)
  same_step last next ex ey en ep eq =
      let h = subst (λ (cs : List Customer). Gathers pairs cs) (ap (map customer_of) ex ∙ map_push customer_of zs last) g in
      let p : (customer_of next).providers ≡ (customer_of last).providers ++ pair.provider.value ∷ [] = ap (map (λ (a : Asn). a.value)) ep ∙ map_push (λ (a : Asn). a.value) last.providers.items pair.provider in
      subst (λ (cs : List Customer). Gathers (pairs ++ provision_of pair ∷ []) cs) (sym (ap (map customer_of) ey ∙ map_push customer_of zs next)) (adds_same (provision_of pair) (map customer_of zs) (customer_of last) (customer_of next) en p eq pairs h)

  pub other_step : (last next : CodeCustomer) (ms : List CodeCustomer) → xs ≡ zs ++ last ∷ [] → ms ≡ zs ++ last ∷ [] → ys ≡ ms ++ next ∷ [] → customer_of next ≡ record { number = pair.customer.value; providers = pair.provider.value ∷ [] } → ¬ (last.number.value ≡ pair.customer.value) → Gathers (pairs ++ provision_of pair ∷ []) (map customer_of ys)
  other_step last next ms ex em ey en n =
      let h = subst (λ (cs : List Customer). Gathers pairs cs) (ap (map customer_of) ex ∙ map_push customer_of zs last) g in
      let y : map customer_of ys ≡ (map customer_of zs ++ customer_of last ∷ []) ++ customer_of next ∷ [] =
      ap (map customer_of) ey ∙ (map_push customer_of ms next ∙ ap (λ (cs : List Customer). cs ++ customer_of next ∷ []) (ap (map customer_of) em ∙ map_push customer_of zs last)) in
      subst (λ (cs : List Customer). Gathers (pairs ++ provision_of pair ∷ []) cs) (sym y) (adds_other (provision_of pair) (map customer_of zs) (customer_of last) (customer_of next) en n pairs h)

  pub first_step : (next : CodeCustomer) → length xs ≡ 0 → length zs ≡ 0 → ys ≡ zs ++ next ∷ [] → customer_of next ≡ record { number = pair.customer.value; providers = pair.provider.value ∷ [] } → Gathers (pairs ++ provision_of pair ∷ []) (map customer_of ys)
  first_step next lx lz ey en =
      let h = subst (λ (cs : List CodeCustomer). Gathers pairs (map customer_of cs)) (empty_of xs lx) g in
      let y : ys ≡ next ∷ [] = ey ∙ ap (λ (cs : List CodeCustomer). cs ++ next ∷ []) (empty_of zs lz) in
      subst (λ (cs : List CodeCustomer). Gathers (pairs ++ provision_of pair ∷ []) (map customer_of cs)) (sym y) (adds_first (provision_of pair) (customer_of next) en pairs h)

-- Where nothing came out, there was nothing.
pub none_left : {X : Type 0} (o : Option X) (m n : ℕ) (P : X → Type 0) → ((x : X) → ¬ (o ≡ Some x)) → MatchOption o ((m ≡ 0) × (n ≡ 0)) P → (m ≡ 0) × (n ≡ 0)
none_left None m n P not h = h
none_left (Some x) m n P not h = absurd (not x refl)
