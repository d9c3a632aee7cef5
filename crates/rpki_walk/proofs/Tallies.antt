-- Chains that are counted: some of them, and then others.
use Rattle.std.proofs.Common.{◌≡◌, ◌⊎◌, ◌<◌, ◌+◌, ℕ, zero, suc, Bool, true, false, IsTrue, List, [], ◌∷◌, length, map, get_or, take, refl, sym, ap, subst, ◌∙◌, inl, inr, arith}
use Rattle.rpki_rules.specs.Words.{Mem, NoRepeat}
use Rattle.rpki_rules.proofs.Lists.{map_mem}
use Rattle.rpki_walk.specs.Cost.{Chain}
use Rattle.rpki_walk.specs.Tallied.{IsTally, Tallies}
use Rattle.rpki_walk.specs.declared.cost.tally.Tally.{Tally}
use Rattle.rpki_walk.proofs.Mems.{mem_get_or, mem_take_more}

-- Where there are none.
pub tallies_none : (P : Chain → Type 0) (seen : List Chain) (t : Tally) → ((c : Chain) → ¬ (P c)) → IsTally t seen → Tallies P seen t true
tallies_none P seen t n k = record {
  chains = seen;
  tally = k;
  kept = λ c m. m;
  added = λ c m. inl m;
  all = λ _ c p. absurd (n c p);
  rest = λ e. absurd (let f : true ≡ false = e in cc);
}

pub tallies_same : (P R : Chain → Type 0) (seen : List Chain) (new : Tally) (whole : Bool) → Tallies P seen new whole → ((c : Chain) → P c → R c) → ((c : Chain) → R c → P c) → Tallies R seen new whole
tallies_same P R seen new whole t sub sup = record {
  chains = t.chains;
  tally = t.tally;
  kept = t.kept;
  added = λ c m. elim (t.added c m) [ inl s ↦ inl s | inr p ↦ inr (sub c p) ];
  all = λ e c r. t.all e c (sup c r);
  rest = λ e. let h = t.rest e in (h.0, h.1, sub h.1 h.2, h.3);
}

-- Some, and then others.
pub tallies_then : (P Q R : Chain → Type 0) (seen : List Chain) (mid new : Tally) (whole : Bool) (t : Tallies P seen mid true) → Tallies Q t.chains new whole → ((c : Chain) → P c ⊎ Q c → R c) → (IsTrue whole → (c : Chain) → R c → P c ⊎ Q c) → Tallies R seen new whole
tallies_then P Q R seen mid new whole t u sub sup = record {
  chains = u.chains;
  tally = u.tally;
  kept = λ c m. u.kept c (t.kept c m);
  added = λ c m. elim (u.added c m) [
    | inl b ↦ elim (t.added c b) [ inl s ↦ inl s | inr p ↦ inr (sub c (inl p)) ]
    | inr q ↦ inr (sub c (inr q))
  ];
  all = λ e c r. elim (sup e c r) [ inl p ↦ u.kept c (t.all refl c p) | inr q ↦ u.all e c q ];
  rest = λ e. let h = u.rest e in (h.0, h.1, sub h.1 (inr h.2), h.3);
}

mem_take : {X : Type 0} (xs : List X) (i : ℕ) (x : X) → Mem (take i xs) x → Mem xs x
mem_take [] zero x m = m
mem_take [] (suc i) x m = m
mem_take (y ∷ ys) zero x m = absurd m
mem_take (y ∷ ys) (suc i) x (inl e) = inl e
mem_take (y ∷ ys) (suc i) x (inr m) = inr (mem_take ys i x m)

pub map_same : {X : Type 0} (xs : List X) → map (λ x. x) xs ≡ xs
map_same [] = refl
map_same (x ∷ xs) = ap (λ ys. x ∷ ys) (map_same xs)

-- Of a list without repeats none stands before itself.
pub apart_take : {X Y : Type 0} (f : X → Y) (xs : List X) (i : ℕ) (d : X) → NoRepeat (map f xs) → i < length xs → (y : X) → Mem (take i xs) y → ¬ (f y ≡ f (get_or xs i d))
apart_take f [] i d n l y m e = absurd (omega (arith, l))
apart_take f (x ∷ xs) zero d n l y m e = absurd m
apart_take {Y = Y} f (x ∷ xs) (suc i) d n l y (inl q) e =
    let short : i < length xs = let h : suc i < suc (length xs) = l in omega arith in
    n.0 (subst (λ (z : Y). Mem (map f xs) z) (sym (ap f q ∙ e)) (map_mem f xs (get_or xs i d) (mem_get_or xs i d short)))
apart_take f (x ∷ xs) (suc i) d n l y (inr m) e = apart_take f xs i d n.1 (let h : suc i < suc (length xs) = l in omega arith) y m e

-- Some chains, and those of each of a list.
abbrev pub UpTo : {X : Type 0} → (Chain → Type 0) → (X → Chain → Type 0) → List X → Chain → Type 0
UpTo {X = X} B F xs c = B c ⊎ ((u : X) × Mem xs u × F u c)

module _ {X : Type 0} (B : Chain → Type 0) (F : X → Chain → Type 0) (xs : List X) (i : ℕ) (d : X) (l : i < length xs) (seen : List Chain) (mid : Tally) (t : Tallies (UpTo B F (take i xs)) seen mid true) where
  -- The chains of the next of the list are counted too.
  pub tallies_next : (new : Tally) → Tallies (F (get_or xs i d)) t.chains new true → Tallies (UpTo B F (take (i + 1) xs)) seen new true
  tallies_next new u = tallies_then (UpTo B F (take i xs)) (F (get_or xs i d)) (UpTo B F (take (i + 1) xs)) seen mid new true t u
      (λ c h. elim h [
        | inl p ↦ elim p [ inl b ↦ inl b | inr q ↦ inr (q.0, (mem_take_more xs i d q.0 l).1 (inl q.1), q.2) ]
        | inr f ↦ inr (get_or xs i d, (mem_take_more xs i d (get_or xs i d) l).1 (inr refl), f)
      ])
      (λ _ c r. elim r [
        | inl b ↦ inl (inl b)
        | inr q ↦ elim ((mem_take_more xs i d q.0 l).0 q.1) [ inl m ↦ inl (inr (q.0, m, q.2)) | inr e ↦ inr (subst (λ (u : X). F u c) (sym e) q.2) ]
      ])

  -- Or not all of them, as the budget is spent.
  pub tallies_cut : (new : Tally) → Tallies (F (get_or xs i d)) t.chains new false → Tallies (UpTo B F xs) seen new false
  tallies_cut new u = tallies_then (UpTo B F (take i xs)) (F (get_or xs i d)) (UpTo B F xs) seen mid new false t u
      (λ c h. elim h [
        | inl p ↦ elim p [ inl b ↦ inl b | inr q ↦ inr (q.0, mem_take xs i q.0 q.1, q.2) ]
        | inr f ↦ inr (get_or xs i d, mem_get_or xs i d l, f)
      ])
      (λ e. absurd (let f : false ≡ true = e in cc))

  -- They were not counted yet.
  pub fresh : ((c : Chain) → F (get_or xs i d) c → ¬ (Mem seen c)) → ((c : Chain) → F (get_or xs i d) c → ¬ (B c)) → ((u : X) → Mem (take i xs) u → (c : Chain) → F u c → ¬ (F (get_or xs i d) c)) → (c : Chain) → F (get_or xs i d) c → ¬ (Mem t.chains c)
  fresh unseen no_b no_f c f m = elim (t.added c m) [
    | inl s ↦ unseen c f s
    | inr p ↦ elim p [ inl b ↦ no_b c f b | inr q ↦ no_f q.0 q.1 c q.2 f ]
  ]
