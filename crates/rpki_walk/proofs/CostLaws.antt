-- What the numbers say of one authority, by the chains that were counted.
use Rattle.std.proofs.Common.{◌≡◌, ◌⊎◌, ◌↔◌, ◌≤◌, suc, Bool, true, false, cond, filter, List, [], ◌∷◌, length, refl, sym, ap, ◌∙◌, inl, inr, arith}
use Rattle.rpki_rules.specs.Words.{Mem, NoRepeat}
use Rattle.rpki_walk.specs.Cost.{goes_below, how_many}
use Rattle.rpki_walk.specs.CostLaws.{CountsAreExact, CountsAreReached}

-- Those of a list that pass a test.
mem_cond : {X : Type 0} (b : Bool) (y : X) (ys : List X) (x : X) → Mem (cond b (y ∷ ys) ys) x ↔ (((y ≡ x) × (b ≡ true)) ⊎ Mem ys x)
mem_cond true y ys x = (
  λ m. elim m [ inl e ↦ inl (e, refl) | inr r ↦ inr r ],
  λ h. elim h [ inl e ↦ inl e.0 | inr r ↦ inr r ],
)
mem_cond false y ys x = (
  λ m. inr m,
  λ h. elim h [ inl e ↦ absurd (let f : false ≡ true = e.1 in cc) | inr r ↦ r ],
)

mem_filter : {X : Type 0} (p : X → Bool) (xs : List X) (x : X) → Mem (filter p xs) x ↔ (Mem xs x × (p x ≡ true))
mem_filter p [] x = (λ m. absurd m, λ h. absurd h.0)
mem_filter p (y ∷ ys) x = let h = mem_cond (p y) y (filter p ys) x in let k = mem_filter p ys x in (
  λ m. elim (h.0 m) [ inl e ↦ (inl e.0, ap p (sym e.0) ∙ e.1) | inr r ↦ let q = k.0 r in (inr q.0, q.1) ],
  λ q. elim q.0 [ inl e ↦ h.1 (inl (e, ap p e ∙ q.1)) | inr m ↦ h.1 (inr (k.1 (m, q.1))) ],
)

once_cond : {X : Type 0} (b : Bool) (y : X) (ys : List X) → ¬ (Mem ys y) → NoRepeat ys → NoRepeat (cond b (y ∷ ys) ys)
once_cond true y ys n o = (n, o)
once_cond false y ys n o = o

once_filter : {X : Type 0} (p : X → Bool) (xs : List X) → NoRepeat xs → NoRepeat (filter p xs)
once_filter p [] o = tt
once_filter p (y ∷ ys) o = once_cond (p y) y (filter p ys) (λ m. o.0 ((mem_filter p ys y).0 m).0) (once_filter p ys o.1)

some_long : {X : Type 0} (xs : List X) (x : X) → Mem xs x → 1 ≤ length xs
some_long [] x m = absurd m
some_long (y ∷ ys) x m = let e : length (y ∷ ys) ≡ suc (length ys) = refl in omega (arith, e)

pub counts_are_reached : CountsAreReached
counts_are_reached w budget counts h x m =
    let chains = h.0 in let are = h.1 in
    record {
      chains = filter (goes_below x.authority) chains;
      different = once_filter (goes_below x.authority) chains are.different;
      each = λ c n. let q = (mem_filter (goes_below x.authority) chains c).0 n in (are.accepted c q.0, q.1);
      count = sym ((are.counted x).0 m).1;
    }

pub counts_are_exact : CountsAreExact
counts_are_exact w budget counts h =
    let chains = h.0 in let are = h.1 in let all = h.3 in (
      λ x m. record {
        chains = filter (goes_below x.authority) chains;
        different = once_filter (goes_below x.authority) chains are.different;
        just = λ c. let k = mem_filter (goes_below x.authority) chains c in (
          λ n. let q = k.0 n in (are.accepted c q.0, q.1),
          λ q. k.1 (all c q.0, q.1),
        );
        count = sym ((are.counted x).0 m).1;
      },
      λ c uri a e.
          let n = how_many uri chains in
          let m = (mem_filter (goes_below uri) chains c).1 (all c a, e) in
          (n, (are.counted (record { authority = uri; chains = n })).1 (some_long (filter (goes_below uri) chains) c m, refl)),
    )
