-- From each certificate some path goes on; so where each signer's path is the only one, no two certificates have one key's
-- identifier.
use Rattle.std.proofs.Common.{◌≡◌, ℕ, ◌<◌, ◌≤◌, zero, suc, true, List, [], ◌∷◌, Some, length, get_or, refl, sym, ap, ◌∙◌, subst, inl, inr, arith}
use Rattle.std.specs.Prelude.{◌⊎◌, Contains}
use Rattle.std.proofs.lemmas.Bool.Decides.{eqb_tells}
use Rattle.std.proofs.lemmas.Option.{same_Some, slice_get_within}
use Rattle.objects_rta_valid.specs.Nodes.{Node, IsSelfSigned}
use Rattle.objects_rta_valid.specs.Paths.{AreAllOn, At, Continues, Follows, IsOnlyPath}
use Rattle.certs_verify.specs.certs_basics.Lists.{Mem}
use Rattle.objects_rta_valid.specs.Apart.{AreApart, AreOnly}
use Rattle.objects_rta_valid.proofs.Decided.{continues_decided, self_decided}

-- The list without one of its numbers.
pub record Without (xs : List ℕ) (x : ℕ) : Type 0 where
  pub rest : List ℕ
  pub fewer : length rest < length xs
  pub others : (y : ℕ) → Mem xs y → (x ≡ y) ⊎ Mem rest y

without : (xs : List ℕ) (x : ℕ) → Mem xs x → Without xs x
without [] x m = absurd m
without (y ∷ ys) x (inl e) = record { rest = ys; fewer = omega arith; others = λ z m. elim m [ inl f ↦ inl (sym e ∙ f) | inr n ↦ inr n ] }
without (y ∷ ys) x (inr m) =
    let w = without ys x m in
    record { rest = y ∷ w.rest; fewer = omega (arith, w.fewer); others = λ z n. elim n [ inl f ↦ inr (inl f) | inr k ↦ elim (w.others z k) [ inl e ↦ inl e | inr l ↦ inr (inr l) ] ] }

-- One of those left continues, or none.
pub record Goes (nodes : List Node) (seen : List ℕ) (c : Node) (left : List ℕ) : Type 0 where
  pub place : ℕ
  pub among : Mem left place
  pub continues : Continues nodes seen c place

look : (nodes : List Node) (seen : List ℕ) (c : Node) (left : List ℕ) → Goes nodes seen c left ⊎ ((place : ℕ) → Mem left place → Continues nodes seen c place → ⊥)
look nodes seen c [] = inr (λ place m k. m)
look nodes seen c (x ∷ left) = elim (continues_decided nodes seen c x) [
  | inl k ↦ inl (record { place = x; among = inl refl; continues = k })
  | inr n ↦ elim (look nodes seen c left) [
    | inl g ↦ inl (record { place = g.place; among = inr g.among; continues = g.continues })
    | inr none ↦ inr (λ place m k. elim m [ inl e ↦ n (subst (Continues nodes seen c) (sym e) k) | inr l ↦ none place l k ])
  ]
]

-- Each place was seen or is left.
abbrev Covers : List Node → List ℕ → List ℕ → Type 0
Covers nodes seen left = (place : ℕ) → place < length nodes → Contains seen place ⊎ Mem left place

seen_more : (seen : List ℕ) (x y : ℕ) → Contains seen y → Contains (x ∷ seen) y
seen_more seen x y m = (suc m.0, omega (arith, m.1), m.2)

covers_more : (nodes : List Node) (seen left : List ℕ) (x : ℕ) (w : Without left x) → Covers nodes seen left → Covers nodes (x ∷ seen) w.rest
covers_more nodes seen left x w covers place lt = elim (covers place lt) [
  | inl m ↦ inl (seen_more seen x place m)
  | inr m ↦ elim (w.others place m) [ inl e ↦ inl (zero, omega arith, e) | inr k ↦ inr k ]
]

abbrev GoesOn : List Node → List ℕ → Node → Type 0
GoesOn nodes seen c = (places : List ℕ) × Follows nodes seen c places

step : (nodes : List Node) (seen : List ℕ) (c : Node) (left : List ℕ) → Covers nodes seen left → (Goes nodes seen c left → (IsSelfSigned c → ⊥) → GoesOn nodes seen c) → GoesOn nodes seen c
step nodes seen c left covers further = elim (self_decided c) [
  | inl s ↦ ([], inl s)
  | inr open_end ↦ elim (look nodes seen c left) [
    | inr none ↦ ([], inr (λ place k. elim (covers place (slice_get_within nodes place k.parent k.at)) [ inl m ↦ k.unseen m | inr m ↦ none place m k ]))
    | inl g ↦ further g open_end
  ]
]

go_on : (fuel : ℕ) (nodes : List Node) (seen : List ℕ) (c : Node) (left : List ℕ) → length left ≤ fuel → Covers nodes seen left → GoesOn nodes seen c
go_on zero nodes seen c left enough covers = step nodes seen c left covers (λ g open_end. let w = without left g.place g.among in absurd (omega (arith, w.fewer)))
go_on (suc fuel) nodes seen c left enough covers = step nodes seen c left covers (λ g open_end.
    let w = without left g.place g.among in
    let on = go_on fuel nodes (g.place ∷ seen) g.continues.parent w.rest (omega (arith, w.fewer)) (covers_more nodes seen left g.place w covers) in
    (g.place ∷ on.0, (open_end, g.continues, on.1)))

-- All places below a count.
upto : ℕ → List ℕ
upto zero = []
upto (suc n) = n ∷ upto n

upto_has : (n place : ℕ) → place < n → Mem (upto n) place
unfolding upto
upto_has zero place lt = absurd (omega arith)
upto_has (suc n) place lt = elim (eqb_tells n place) [ inl same ↦ inl same.1 | inr other ↦ inr (upto_has n place (omega (arith, other.1))) ]

pub some_way : (nodes : List Node) (seen : List ℕ) (c : Node) → GoesOn nodes seen c
some_way nodes seen c = go_on (length (upto (length nodes))) nodes seen c (upto (length nodes)) (omega arith) (λ place lt. inr (upto_has (length nodes) place lt))

-- What follows is the only way on.
abbrev OnlyWay : List Node → List ℕ → Node → List ℕ → Type 0
OnlyWay nodes seen c places = (others : List ℕ) → Follows nodes seen c others → others ≡ places

tails : (x y : ℕ) (xs ys : List ℕ) → (x ∷ xs) ≡ (y ∷ ys) → xs ≡ ys
tails x y xs ys e = cc

heads : (x y : ℕ) (xs ys : List ℕ) → (x ∷ xs) ≡ (y ∷ ys) → x ≡ y
heads x y xs ys e = cc

only_next : (nodes : List Node) (seen : List ℕ) (c : Node) (y z : ℕ) (ys : List ℕ) → OnlyWay nodes seen c (y ∷ ys) → (IsSelfSigned c → ⊥) → Continues nodes seen c z → z ≡ y
only_next nodes seen c y z ys only open_end k =
    let on = some_way nodes (z ∷ seen) k.parent in heads z y on.0 ys (only (z ∷ on.0) (open_end, k, on.1))

only_behind : (nodes : List Node) (seen : List ℕ) (c : Node) (y : ℕ) (ys : List ℕ) (f : Follows nodes seen c (y ∷ ys)) → OnlyWay nodes seen c (y ∷ ys) → OnlyWay nodes (y ∷ seen) f.1.parent ys
only_behind nodes seen c y ys f only others g = tails y y others ys (only (y ∷ others) (f.0, f.1, g))

unseen_later : (nodes : List Node) (seen : List ℕ) (c : Node) (places : List ℕ) (a : ℕ) → Follows nodes seen c places → Mem places a → Contains seen a → ⊥
unseen_later nodes seen c [] a f m s = m
unseen_later nodes seen c (y ∷ ys) a f (inl e) s = f.1.unseen (subst (Contains seen) (sym e) s)
unseen_later nodes seen c (y ∷ ys) a f (inr m) s = unseen_later nodes (y ∷ seen) f.1.parent ys a f.2 m (seen_more seen y a s)

issues_there : (nodes : List Node) (seen : List ℕ) (c : Node) (places : List ℕ) (a : ℕ) (n : Node) → Follows nodes seen c places → Mem places a → At nodes a n → n.issues ≡ true
issues_there nodes seen c [] a n f m at = absurd m
issues_there nodes seen c (y ∷ ys) a n f (inl e) at =
    subst (λ (p : Node). p.issues ≡ true) (same_Some f.1.parent n (sym f.1.at ∙ subst (λ (k : ℕ). At nodes k n) (sym e) at)) f.1.issues
issues_there nodes seen c (y ∷ ys) a n f (inr m) at = issues_there nodes (y ∷ seen) f.1.parent ys a n f.2 m at

past : (seen : List ℕ) (y x : ℕ) → (y ≡ x → ⊥) → (k : ℕ) → k < length (y ∷ seen) → get_or (y ∷ seen) k x ≡ x → Contains seen x
past seen y x other zero lt e = absurd (other e)
past seen y x other (suc k) lt e = (k, omega arith, e)

before : (seen : List ℕ) (y x : ℕ) → Contains (y ∷ seen) x → (y ≡ x → ⊥) → Contains seen x
before seen y x s other = past seen y x other s.0 s.1 s.2

-- Two authorities with one identifier, of which one is on the way and the other not seen before it, give two ways.
module _ (nodes : List Node) (a b : ℕ) (n p : Node) (at : At nodes a n) (above : At nodes b p) (n_issues : n.issues ≡ true) (p_issues : p.issues ≡ true)
    (one_key : n.subject ≡ p.subject) (two : a ≡ b → ⊥) where
  b_too : (seen : List ℕ) (c : Node) → Continues nodes seen c a → (Contains seen b → ⊥) → Continues nodes seen c b
  b_too seen c k unseen = record {
    parent = p;
    at = above;
    issues = p_issues;
    below = k.below ∙ ap (λ (x : Node). Some x.subject) (same_Some k.parent n (sym k.at ∙ at)) ∙ ap (λ (s : List ℕ). Some s) one_key;
    unseen = unseen;
  }

  a_too : (seen : List ℕ) (c : Node) → Continues nodes seen c b → (Contains seen a → ⊥) → Continues nodes seen c a
  a_too seen c k unseen = record {
    parent = n;
    at = at;
    issues = n_issues;
    below = k.below ∙ ap (λ (x : Node). Some x.subject) (same_Some k.parent p (sym k.at ∙ above)) ∙ ap (λ (s : List ℕ). Some s) (sym one_key);
    unseen = unseen;
  }

  two_ways : (seen : List ℕ) (c : Node) (places : List ℕ) → Follows nodes seen c places → OnlyWay nodes seen c places → Mem places a → (Contains seen b → ⊥) → ⊥
  two_ways seen c [] f only m unseen = m
  two_ways seen c (y ∷ ys) f only (inl e) unseen =
      two (sym e ∙ sym (only_next nodes seen c y b ys only f.0 (b_too seen c (subst (Continues nodes seen c) e f.1) unseen)))
  two_ways seen c (y ∷ ys) f only (inr m) unseen = elim (eqb_tells y b) [
    | inl same ↦ two (only_next nodes seen c y a ys only f.0 (a_too seen c (subst (Continues nodes seen c) same.1 f.1)
        (λ s. unseen_later nodes (y ∷ seen) f.1.parent ys a f.2 m (seen_more seen y a s))) ∙ same.1)
    | inr other ↦ two_ways (y ∷ seen) f.1.parent ys f.2 (only_behind nodes seen c y ys f only) m (λ s. unseen (before seen y b s other.1))
  ]

mem_from : (xs : List ℕ) (x : ℕ) (k : ℕ) → k < length xs → get_or xs k x ≡ x → Mem xs x
mem_from [] x k lt e = absurd (omega arith)
mem_from (y ∷ ys) x zero lt e = inl e
mem_from (y ∷ ys) x (suc k) lt e = inr (mem_from ys x k (omega arith) e)

-- A place on paths is on the only path of some signer.
pub record OnOnly (nodes : List Node) (place : ℕ) : Type 0 where
  pub sid : List ℕ
  pub path : List ℕ
  pub only : IsOnlyPath nodes sid path
  pub on : Mem path place

on_only : (nodes : List Node) (sids paths : List (List ℕ)) (place : ℕ) (k : ℕ) (path : List ℕ) → AreOnly nodes sids paths → k < length paths → get_or paths k path ≡ path → Contains path place → OnOnly nodes place
on_only nodes [] [] place k path only lt e m = absurd (omega arith)
on_only nodes [] (q ∷ paths) place k path only lt e m = absurd only
on_only nodes (sid ∷ sids) [] place k path only lt e m = absurd only
on_only nodes (sid ∷ sids) (q ∷ paths) place zero path only lt e m = record { sid = sid; path = q; only = only.0; on = let n = subst (λ (x : List ℕ). Contains x place) (sym e) m in mem_from q place n.0 n.1 n.2 }
on_only nodes (sid ∷ sids) (q ∷ paths) place (suc k) path only lt e m = on_only nodes sids paths place k path only.1 (omega arith) e m

-- The place is a path's first, or follows on it.
pub data Stand (nodes : List Node) (place : ℕ) : Type 0 where
  first : (sid rest : List ℕ) → IsOnlyPath nodes sid (place ∷ rest) → Stand nodes place
  later : (sid rest : List ℕ) (start : ℕ) → IsOnlyPath nodes sid (start ∷ rest) → Mem rest place → Stand nodes place

stand : (nodes : List Node) (place : ℕ) (sid path : List ℕ) → IsOnlyPath nodes sid path → Mem path place → Stand nodes place
stand nodes place sid [] only m = absurd m
stand nodes place sid (x ∷ rest) only (inl e) = first sid rest (subst (λ (n : ℕ). IsOnlyPath nodes sid (n ∷ rest)) e only)
stand nodes place sid (x ∷ rest) only (inr m) = later sid rest x only m

first_alone : (nodes : List Node) (sid rest : List ℕ) (a b : ℕ) (n p : Node) → IsOnlyPath nodes sid (a ∷ rest) → At nodes a n → At nodes b p → n.subject ≡ p.subject → b ≡ a
first_alone nodes sid rest a b n p only at above e =
    let on = some_way nodes (b ∷ []) p in
    let key : p.subject ≡ sid = sym e ∙ ap (λ (x : Node). x.subject) (same_Some n only.is.0 (sym at ∙ only.is.1)) ∙ only.is.2 in
    heads b a on.0 rest (only.only (b ∷ on.0) (p, above, key, on.1))

first_way : (nodes : List Node) (sid rest : List ℕ) (x : ℕ) (only : IsOnlyPath nodes sid (x ∷ rest)) → OnlyWay nodes (x ∷ []) only.is.0 rest
first_way nodes sid rest x only others f = tails x x others rest (only.only (x ∷ others) (only.is.0, only.is.1, only.is.2, f))

seen_one : (x y : ℕ) → (x ≡ y → ⊥) → Contains (x ∷ []) y → ⊥
seen_one x y other s = let t = before [] x y s other in absurd (omega (arith, t.1))

apart_at : (nodes : List Node) (a b : ℕ) (n p : Node) → Stand nodes a → Stand nodes b → At nodes a n → At nodes b p → n.subject ≡ p.subject → a ≡ b
apart_at nodes a b n p (first sid rest only) s at above e = sym (first_alone nodes sid rest a b n p only at above e)
apart_at nodes a b n p (later sid rest x only m) (first t others o) at above e = first_alone nodes t others b a p n o above at (sym e)
apart_at nodes a b n p (later sid rest x only m) (later t others y o k) at above e = elim (eqb_tells a b) [
  | inl same ↦ same.1
  | inr other ↦ elim (eqb_tells x b) [
    | inl start ↦ first_alone nodes sid rest b a p n (subst (λ (i : ℕ). IsOnlyPath nodes sid (i ∷ rest)) start.1 only) above at (sym e)
    | inr apart ↦ absurd (two_ways nodes a b n p at above (issues_there nodes (x ∷ []) only.is.0 rest a n only.is.3 m at)
        (issues_there nodes (y ∷ []) o.is.0 others b p o.is.3 k above) e other.1 (x ∷ []) only.is.0 rest only.is.3 (first_way nodes sid rest x only) m (seen_one x b apart.1))
  ]
]

pub apart_on : (nodes : List Node) (sids paths : List (List ℕ)) → AreOnly nodes sids paths → AreAllOn paths (length nodes) → AreApart nodes
apart_on nodes sids paths only all a b n p at above e =
    let on_a = all a (slice_get_within nodes a n at) in
    let on_b = all b (slice_get_within nodes b p above) in
    let x = on_only nodes sids paths a on_a.0 on_a.1 only on_a.2 on_a.3 on_a.4 in
    let y = on_only nodes sids paths b on_b.0 on_b.1 only on_b.2 on_b.3 on_b.4 in
    apart_at nodes a b n p (stand nodes a x.sid x.path x.only x.on) (stand nodes b y.sid y.path y.only y.on) at above e
