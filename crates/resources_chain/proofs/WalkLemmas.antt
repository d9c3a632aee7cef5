-- The steps of the walks over lists of runs.
use Rattle.std.proofs.Common.{◌≡◌, ℕ, ◌+◌, ◌<◌, ◌≤◌, ◌⊎◌, ◌↔◌, List, [], ◌∷◌, ◌++◌, length, map, take, max, ◌-◌, nat_eq, Bool, eq-eqb, append_assoc, append-nil, length-append, false, IsTrue, inl, inr, refl, sym, ap, ◌∙◌, subst, le_refl, arith}
use Rattle.std.proofs.lemmas.List.{map-append, take-map, length-map}
use Rattle.std.proofs.lemmas.Bool.{eqb-true}
use Rattle.std.proofs.Math.Seq.{take-append_seam}
use Rattle.resources_chain.specs.Sets.{Run, InRun, InRuns, StandsApart, AreMaximal, IsRunsOf, Touch, InBoth, InFirstOnly, IsInside}
use Rattle.resources_chain.specs.Walks.{BeginBy, AreAscending, BeginByFirst, BeginFrom, FirstReaches, Adds, AddsSet, SameFrom, InsideUpTo, FirstOutside}
use Rattle.resources_chain.proofs.RunLemmas.{le_or_lt}
use Rattle.resources_chain.proofs.SetLemmas.{past_gap, least, in_append}

-- No elements, no runs.
pub no_runs : {A : Type 0} (f : A → Run) (xs : List A) → length xs ≡ 0 → map f xs ≡ []
no_runs f [] e = refl
no_runs f (x ∷ xs) e = absurd (omega arith)

-- An element at the end is a run at the end.
pub snoc_runs : {A : Type 0} {all : List A} (f : A → Run) (xs : List A) (x : A) → all ≡ xs ++ x ∷ [] → map f all ≡ map f xs ++ f x ∷ []
snoc_runs f xs x e = ap (map f) e ∙ map-append f xs (x ∷ [])

-- What a test refutes doesn't hold.
pub refuted : {P : Type 0} → (IsTrue false ↔ P) → P → ⊥
refuted told p = let wrong : IsTrue false = told.1 p in absurd cc

-- Each of the runs ends at least one number before this one.
abbrev pub EndApart : List Run → ℕ → Type 0
EndApart [] k = Unit {0}
EndApart (r ∷ rs) k = (r.last + 1 < k) × EndApart rs k

end_mono : (rs : List Run) (k l : ℕ) → EndApart rs k → k ≤ l → EndApart rs l
end_mono [] k l e h = tt
end_mono (r ∷ rs) k l e h = (let a : r.last + 1 < k = e.0 in omega arith, end_mono rs k l e.1 h)

pub begin_mono : (rs : List Run) (k l : ℕ) → BeginBy k rs → k ≤ l → BeginBy l rs
begin_mono [] k l e h = tt
begin_mono (r ∷ rs) k l e h = (let a : r.first ≤ k = e.0 in omega arith, begin_mono rs k l e.1 h)

-- Runs whose numbers are all before a number begin before it.
pub begin_below : (rs : List Run) (k : ℕ) → AreMaximal rs → ((n : ℕ) → InRuns rs n → n < k) → BeginBy k rs
begin_below [] k m f = tt
begin_below (r ∷ rs) k m f = (let a : r.first < k = f r.first (inl (le_refl _, m.0)) in omega arith, begin_below rs k m.2 (λ n i. f n (inr i)))

begin_snoc : (rs : List Run) (r : Run) (k : ℕ) → BeginBy k rs → r.first ≤ k → BeginBy k (rs ++ r ∷ [])
begin_snoc [] r k b h = (h, tt)
begin_snoc (s ∷ rs) r k b h = (b.0, begin_snoc rs r k b.1 h)

snoc_begin : (rs : List Run) (r : Run) (k : ℕ) → BeginBy k (rs ++ r ∷ []) → BeginBy k rs × (r.first ≤ k)
snoc_begin [] r k b = (tt, b.0)
snoc_begin (s ∷ rs) r k b = let h = snoc_begin rs r k b.1 in ((b.0, h.0), h.1)

in_snoc : (rs : List Run) (r : Run) (n : ℕ) → InRuns (rs ++ r ∷ []) n ↔ (InRuns rs n ⊎ InRun r n)
in_snoc rs r n =
    let h = in_append rs (r ∷ []) n in
    (λ i. elim (h.0 i) [ inl j ↦ inl j | inr j ↦ elim j [ inl k ↦ inr k | inr k ↦ absurd k ] ], λ i. h.1 (elim i [ inl j ↦ inl j | inr j ↦ inr (inl j) ]))

apart_snoc : (k : ℕ) (rs : List Run) (r : Run) → StandsApart k rs → k + 1 < r.first → StandsApart k (rs ++ r ∷ [])
apart_snoc k [] r a h = (h, tt)
apart_snoc k (s ∷ rs) r a h = (a.0, apart_snoc k rs r a.1 h)

snoc_apart : (k : ℕ) (rs : List Run) (r : Run) → StandsApart k (rs ++ r ∷ []) → StandsApart k rs × (k + 1 < r.first)
snoc_apart k [] r a = (tt, a.0)
snoc_apart k (s ∷ rs) r a = let h = snoc_apart k rs r a.1 in ((a.0, h.0), h.1)

maximal_snoc : (rs : List Run) (r : Run) → AreMaximal rs → EndApart rs r.first → r.first ≤ r.last → AreMaximal (rs ++ r ∷ [])
maximal_snoc [] r m e p = (p, tt, tt)
maximal_snoc (s ∷ rs) r m e p = (m.0, apart_snoc s.last rs r m.1 e.0, maximal_snoc rs r m.2 e.1 p)

snoc_maximal : (rs : List Run) (r : Run) → AreMaximal (rs ++ r ∷ []) → AreMaximal rs × EndApart rs r.first × (r.first ≤ r.last)
snoc_maximal [] r m = (tt, tt, m.0)
snoc_maximal (s ∷ rs) r m =
    let h = snoc_maximal rs r m.2 in
    let a = snoc_apart s.last rs r m.1 in
    ((m.0, a.0, h.0), (a.1, h.1), h.2)

end_snoc : (rs : List Run) (r : Run) (k : ℕ) → EndApart rs k → r.last + 1 < k → EndApart (rs ++ r ∷ []) k
end_snoc [] r k e h = (h, tt)
end_snoc (s ∷ rs) r k e h = (e.0, end_snoc rs r k e.1 h)

-- Lists that are equal to others are added to as those are.
pub adds_at : {old new front all : List Run} {r : Run} → old ≡ front → new ≡ all → (AreMaximal front → BeginBy r.first front → Adds front all r) → AreMaximal old → BeginBy r.first old → Adds old new r
adds_at {old} {new} {front} {all} {r} e q k m b =
    let at : Adds front all r = k (subst (λ (s : List Run). AreMaximal s) e m) (subst (λ (s : List Run). BeginBy r.first s) e b) in
    subst (λ (s : List Run). Adds s new r) (sym e) (subst (λ (s : List Run). Adds front s r) (sym q) at)

-- A run at the end gives way to its union with another, which begins no earlier.
pub add_joined : (front : List Run) (l r j : Run) → AreMaximal (front ++ l ∷ []) → BeginBy r.first (front ++ l ∷ []) → j.first ≤ j.last → ((n : ℕ) → InRun j n ↔ (InRun l n ⊎ InRun r n)) → Adds (front ++ l ∷ []) (front ++ j ∷ []) r
add_joined front l r j m b p same =
    let parts = snoc_maximal front l m in
    let begins = snoc_begin front l r.first b in
    let behind : l.first ≤ r.first = begins.1 in
    let low : j.first ≤ l.first = ((same l.first).1 (inl (le_refl _, parts.2))).0 in
    let high : l.first ≤ j.first = elim ((same j.first).0 (le_refl _, p)) [ inl i ↦ i.0 | inr i ↦ let x : r.first ≤ j.first = i.0 in omega arith ] in
    record {
      maximal = maximal_snoc front j parts.0 (end_mono front l.first j.first parts.1 high) p;
      same = λ n. (
        λ i. elim ((in_snoc front j n).0 i) [
          | inl k ↦ inl ((in_snoc front l n).1 (inl k))
          | inr k ↦ elim ((same n).0 k) [ inl x ↦ inl ((in_snoc front l n).1 (inr x)) | inr x ↦ inr x ]
        ],
        λ i. (in_snoc front j n).1 (elim i [
          | inl k ↦ elim ((in_snoc front l n).0 k) [ inl x ↦ inl x | inr x ↦ inr ((same n).1 (inl x)) ]
          | inr k ↦ inr ((same n).1 (inr k))
        ]),
      );
      order = begin_snoc front j r.first begins.0 (omega arith);
    }

-- After a run that neither overlaps nor touches it a run stands apart.
pub add_apart : (front : List Run) (l r : Run) → AreMaximal (front ++ l ∷ []) → BeginBy r.first (front ++ l ∷ []) → r.first ≤ r.last → (Touch l r → ⊥) → Adds (front ++ l ∷ []) ((front ++ l ∷ []) ++ r ∷ []) r
add_apart front l r m b p apart =
    let parts = snoc_maximal front l m in
    let begins = snoc_begin front l r.first b in
    let behind : l.first ≤ r.first = begins.1 in
    let gap : l.last + 1 < r.first = elim (le_or_lt r.first (l.last + 1)) [ inl h ↦ absurd (apart (omega arith, h)) | inr h ↦ h ] in
    record {
      maximal = maximal_snoc (front ++ l ∷ []) r m (end_snoc front l r.first (end_mono front l.first r.first parts.1 behind) gap) p;
      same = in_snoc (front ++ l ∷ []) r;
      order = begin_snoc (front ++ l ∷ []) r r.first b (le_refl _);
    }

pub same_at : {k : ℕ} {old new s : List Run} → SameFrom k old new → new ≡ s → SameFrom k old s
same_at {k} {old} f e = subst (λ (x : List Run). SameFrom k old x) e f

pub reaches_at : (k : ℕ) {new s : List Run} → FirstReaches k new → new ≡ s → FirstReaches k s
reaches_at k f e = subst (λ (x : List Run). FirstReaches k x) e f

-- The first run ends before the number: nothing is lost from there on.
pub skip_first : {k : ℕ} {old behind : List Run} {f : Run} → SameFrom k old (f ∷ behind) → f.last < k → SameFrom k old behind
skip_first s h = record {
  maximal = s.maximal.2;
  same = λ n low. (λ i. (s.same n low).0 (inr i), λ i. elim ((s.same n low).1 i) [ inl j ↦ absurd (omega (arith, j.1)) | inr j ↦ j ]);
}

-- What stands outside of `taken` in a piece, as the walk goes on.
pub record Outside (old new : List Run) (block piece : Run) (taken rest : List Run) : Type 0 where
  pub maximal : AreMaximal new
  pub below : (n : ℕ) → InRuns new n → n < piece.first
  pub ends : piece.last ≡ block.last
  pub same : (n : ℕ) → (InRuns new n ⊎ (InRun piece n × ¬ (InRuns rest n))) ↔ (InRuns old n ⊎ (InRun block n × ¬ (InRuns taken n)))
  pub left : SameFrom (block.last + 1) taken rest

pub outside_at : {old new : List Run} {block piece : Run} {taken rest s : List Run} → Outside old new block piece taken rest → rest ≡ s → Outside old new block piece taken s
outside_at {old} {new} {block} {piece} {taken} o e = subst (λ (x : List Run). Outside old new block piece taken x) e o

-- A number before the first of maximal runs is in none.
before_first : (f : Run) (rs : List Run) (n : ℕ) → AreMaximal (f ∷ rs) → n < f.first → InRuns (f ∷ rs) n → ⊥
before_first f rs n m h i = omega (arith, least f rs n m i)

-- The piece ends in the first of the runs.
pub outside_ends : {old new next : List Run} {block piece f : Run} {taken behind : List Run} {low high : ℕ} → Outside old new block piece taken (f ∷ behind) → AddsSet new next (λ n. InRun piece n × (n < low)) → low ≡ f.first → piece.last ≤ high → high ≡ f.last → AddsSet old next (λ n. InRun block n × ¬ (InRuns taken n))
outside_ends {f = f} {behind = behind} o a first h last = record {
  maximal = a.maximal;
  same = λ n. (
    λ i. elim ((a.same n).0 i) [
      | inl j ↦ (o.same n).0 (inl j)
      | inr j ↦ (o.same n).0 (inr (j.0, before_first f behind n o.left.maximal (omega (arith, j.1))))
    ],
    λ i. (a.same n).1 (elim ((o.same n).1 i) [
      | inl j ↦ inl j
      | inr j ↦ elim (le_or_lt f.first n) [ inl low ↦ absurd (j.1 (inl (low, omega (arith, j.0.1)))) | inr before ↦ inr (j.0, omega arith) ]
    ]),
  );
}

-- The piece goes on after the first of the runs.
pub outside_goes_on : {old new next : List Run} {block piece part f : Run} {taken behind : List Run} {low high : ℕ} → Outside old new block piece taken (f ∷ behind) → AddsSet new next (λ n. InRun piece n × (n < low)) → low ≡ f.first → part.first ≡ max piece.first (high + 1) → high ≡ f.last → part.last ≡ piece.last → part.first ≤ part.last → Outside old next block part taken behind
outside_goes_on {block = block} {piece} {part} {f} {behind = behind} o a below first top last p =
    let ends : piece.last ≡ block.last = o.ends in
    let whole : f.first ≤ f.last = o.left.maximal.0 in
    record {
      maximal = a.maximal;
      below = λ n i. elim ((a.same n).0 i) [ inl j ↦ omega (arith, o.below n j) | inr j ↦ omega (arith, j.1) ];
      ends = omega arith;
      same = λ n. (
        λ i. elim i [
          | inl j ↦ elim ((a.same n).0 j) [
            | inl k ↦ (o.same n).0 (inl k)
            | inr k ↦ (o.same n).0 (inr (k.0, before_first f behind n o.left.maximal (omega (arith, k.1))))
          ]
          | inr j ↦ (o.same n).0 (inr ((omega (arith, j.0.0), omega (arith, j.0.1)), λ w. elim w [ inl x ↦ omega (arith, x.1, j.0.0) | inr x ↦ j.1 x ]))
        ],
        λ i. elim ((o.same n).1 i) [
          | inl j ↦ inl ((a.same n).1 (inl j))
          | inr j ↦ elim (le_or_lt f.first n) [
            | inl low ↦ elim (le_or_lt n f.last) [
              | inl within ↦ absurd (j.1 (inl (low, within)))
              | inr behind_it ↦ inr ((omega (arith, j.0.0), omega (arith, j.0.1)), λ w. j.1 (inr w))
            ]
            | inr before ↦ inl ((a.same n).1 (inr (j.0, omega arith)))
          ]
        ],
      );
      left = skip_first o.left (omega arith);
    }

-- What two lists have found of their difference, and what is left of both.
pub record Differs (a b found rest taken : List Run) : Type 0 where
  pub maximal : AreMaximal found
  pub rest_maximal : AreMaximal rest
  pub taken_maximal : AreMaximal taken
  pub below : (m n : ℕ) → InRuns found m → InRuns rest n → m < n
  pub same : (n : ℕ) → (InRuns found n ⊎ (InRuns rest n × ¬ (InRuns taken n))) ↔ InFirstOnly a b n

pub differs_at : {a b found rest taken s : List Run} → Differs a b found rest taken → rest ≡ s → Differs a b found s taken
differs_at {a} {b} {found} {rest} {taken} d e = subst (λ (x : List Run). Differs a b found x taken) e d

pub differs_step : {a b found next behind taken left : List Run} {f : Run} → Differs a b found (f ∷ behind) taken → AddsSet found next (λ n. InRun f n × ¬ (InRuns taken n)) → SameFrom (f.last + 1) taken left → Differs a b next behind left
differs_step {behind = behind} {f = f} d s l =
    let whole : f.first ≤ f.last = d.rest_maximal.0 in
    record {
      maximal = s.maximal;
      rest_maximal = d.rest_maximal.2;
      taken_maximal = l.maximal;
      below = λ x y i j. elim ((s.same x).0 i) [
        | inl k ↦ d.below x y k (inr j)
        | inr k ↦ omega (arith, k.0.1, past_gap f.last behind y d.rest_maximal.1 j)
      ];
      same = λ n. (
        λ i. (d.same n).0 (elim i [
          | inl j ↦ elim ((s.same n).0 j) [ inl k ↦ inl k | inr k ↦ inr (inl k.0, k.1) ]
          | inr j ↦ inr (inr j.0, λ w. j.1 ((l.same n (omega (arith, past_gap f.last behind n d.rest_maximal.1 j.0))).1 w))
        ]),
        λ i. elim ((d.same n).1 i) [
          | inl j ↦ inl ((s.same n).1 (inl j))
          | inr j ↦ elim j.0 [
            | inl k ↦ inl ((s.same n).1 (inr (k, j.1)))
            | inr k ↦ inr (k, λ w. j.1 ((l.same n (omega (arith, past_gap f.last behind n d.rest_maximal.1 k))).0 w))
          ]
        ],
      );
    }

-- Where only what isn't before the first is left of `taken`.
pub differs_skip : {k : ℕ} {found next taken skipped : List Run} {f : Run} → AddsSet found next (λ n. InRun f n × ¬ (InRuns skipped n)) → SameFrom k taken skipped → k ≡ f.first → AddsSet found next (λ n. InRun f n × ¬ (InRuns taken n))
differs_skip {k = k} {f = f} a s e = record {
  maximal = a.maximal;
  same = λ n. (
    λ i. elim ((a.same n).0 i) [ inl j ↦ inl j | inr j ↦ inr (j.0, λ w. j.1 ((s.same n (omega (arith, j.0.0))).1 w)) ],
    λ i. (a.same n).1 (elim i [ inl j ↦ inl j | inr j ↦ inr (j.0, λ w. j.1 ((s.same n (omega (arith, j.0.0))).0 w)) ]),
  );
}

pub same_on : {k l : ℕ} {old new next : List Run} → SameFrom k old new → SameFrom l new next → k ≤ l → SameFrom l old next
same_on s t h = record {
  maximal = t.maximal;
  same = λ n low. (λ i. (s.same n (omega arith)).0 ((t.same n low).0 i), λ i. (t.same n low).1 ((s.same n (omega arith)).1 i));
}

-- The set P, as what is found of it and what is left of two lists that have the rest of it in common.
pub record Meets (P : ℕ → Type 0) (found left right : List Run) : Type 0 where
  pub maximal : AreMaximal found
  pub left_maximal : AreMaximal left
  pub right_maximal : AreMaximal right
  pub below : (m n : ℕ) → InRuns found m → InRuns left n → InRuns right n → m < n
  pub same : (n : ℕ) → (InRuns found n ⊎ (InRuns left n × InRuns right n)) ↔ P n

pub meets_at : {P : ℕ → Type 0} {found left right s t : List Run} → Meets P found left right → left ≡ s → right ≡ t → Meets P found s t
meets_at {P} {found} {left} {right} {s} m e q = subst (λ (x : List Run). Meets P found s x) q (subst (λ (x : List Run). Meets P found x right) e m)

meets_swap : {P : ℕ → Type 0} {found left right : List Run} → Meets P found left right → Meets P found right left
meets_swap m = record {
  maximal = m.maximal;
  left_maximal = m.right_maximal;
  right_maximal = m.left_maximal;
  below = λ x y i j k. m.below x y i k j;
  same = λ n. (λ i. (m.same n).0 (elim i [ inl j ↦ inl j | inr j ↦ inr (j.1, j.0) ]), λ i. elim ((m.same n).1 i) [ inl j ↦ inl j | inr j ↦ inr (j.1, j.0) ]);
}

-- The run on the left ends first.
pub meets_left : {P : ℕ → Type 0} {found next left right : List Run} {x y : Run} → Meets P found (x ∷ left) (y ∷ right) → AddsSet found next (λ n. InRun x n × InRun y n) → x.last ≤ y.last → Meets P next left (y ∷ right)
meets_left {left = left} {right} {x} {y} m s h =
    record {
      maximal = s.maximal;
      left_maximal = m.left_maximal.2;
      right_maximal = m.right_maximal;
      below = λ p q i j k. elim ((s.same p).0 i) [
        | inl f ↦ m.below p q f (inr j) k
        | inr f ↦ omega (arith, f.0.1, past_gap x.last left q m.left_maximal.1 j)
      ];
      same = λ n. (
        λ i. (m.same n).0 (elim i [
          | inl j ↦ elim ((s.same n).0 j) [ inl k ↦ inl k | inr k ↦ inr (inl k.0, inl k.1) ]
          | inr j ↦ inr (inr j.0, j.1)
        ]),
        λ i. elim ((m.same n).1 i) [
          | inl j ↦ inl ((s.same n).1 (inl j))
          | inr j ↦ elim j.0 [
            | inl k ↦ elim j.1 [
              | inl w ↦ inl ((s.same n).1 (inr (k, w)))
              | inr w ↦ absurd (omega (arith, k.1, past_gap y.last right n m.right_maximal.1 w))
            ]
            | inr k ↦ inr (k, j.1)
          ]
        ],
      );
    }

-- The run on the right ends first.
pub meets_right : {P : ℕ → Type 0} {found next left right : List Run} {x y : Run} → Meets P found (x ∷ left) (y ∷ right) → AddsSet found next (λ n. InRun x n × InRun y n) → y.last ≤ x.last → Meets P next (x ∷ left) right
meets_right m s h =
    meets_swap (meets_left (meets_swap m) (record { maximal = s.maximal; same = λ n. (λ i. elim ((s.same n).0 i) [ inl j ↦ inl j | inr j ↦ inr (j.1, j.0) ], λ i. (s.same n).1 (elim i [ inl j ↦ inl j | inr j ↦ inr (j.1, j.0) ])) }) h)

-- On the right only what isn't before all of the left is left.
pub meets_from : {P : ℕ → Type 0} {k : ℕ} {found left right next : List Run} {x : Run} → Meets P found (x ∷ left) right → SameFrom k right next → k ≡ x.first → Meets P found (x ∷ left) next
meets_from {k = k} {left = left} {x = x} m s e =
    let low : (n : ℕ) → InRuns (x ∷ left) n → k ≤ n = λ n i. omega (arith, least x left n m.left_maximal i) in
    record {
      maximal = m.maximal;
      left_maximal = m.left_maximal;
      right_maximal = s.maximal;
      below = λ p q i j h. m.below p q i j ((s.same q (low q j)).0 h);
      same = λ n. (
        λ i. (m.same n).0 (elim i [ inl j ↦ inl j | inr j ↦ inr (j.0, (s.same n (low n j.0)).0 j.1) ]),
        λ i. elim ((m.same n).1 i) [ inl j ↦ inl j | inr j ↦ inr (j.0, (s.same n (low n j.0)).1 j.1) ],
      );
    }

-- On the left only what isn't before all of the right is left.
pub meets_left_from : {P : ℕ → Type 0} {k : ℕ} {found left right next : List Run} {y : Run} → Meets P found left (y ∷ right) → SameFrom k left next → k ≡ y.first → Meets P found next (y ∷ right)
meets_left_from m s e = meets_swap (meets_from (meets_swap m) s e)

pub meets_end : {found left right : List Run} (old a b : List Run) → Meets (λ n. InRuns old n ⊎ InBoth a b n) found left right → ((n : ℕ) → InRuns left n → InRuns right n → ⊥) → AddsSet old found (InBoth a b)
meets_end old a b m f = record { maximal = m.maximal; same = λ n. (λ i. (m.same n).0 (inl i), λ i. elim ((m.same n).1 i) [ inl j ↦ j | inr j ↦ absurd (f n j.0 j.1) ]) }

-- What is added to nothing is the set.
pub adds_to_none : {found old : List Run} {P : ℕ → Type 0} → AddsSet old found P → old ≡ [] → IsRunsOf P found
adds_to_none {found} {old} {P} s e =
    let t = subst (λ (x : List Run). AddsSet x found P) e s in
    record { maximal = t.maximal; same = λ n. (λ i. elim ((t.same n).0 i) [ inl j ↦ absurd j | inr j ↦ j ], λ i. (t.same n).1 (inr i)) }

-- A run that is inside a list, the first run of which reaches it, is inside that first one.
pub in_first : (f y : Run) (ys : List Run) → f.first ≤ f.last → AreMaximal (y ∷ ys) → f.first ≤ y.last → ((n : ℕ) → InRun f n → InRuns (y ∷ ys) n) → (n : ℕ) → InRun f n → InRun y n
in_first f y ys p m reach inside n i =
    let low : y.first ≤ f.first = least y ys f.first m (inside f.first (le_refl _, p)) in
    let here : f.first ≤ n = i.0 in
    let end : n ≤ f.last = i.1 in (
      omega arith,
      elim (le_or_lt n y.last) [
        | inl h ↦ h
        | inr h ↦ absurd (elim (inside (y.last + 1) (omega arith, omega arith)) [
          | inl k ↦ omega (arith, k.1)
          | inr k ↦ omega (arith, past_gap y.last ys (y.last + 1) m.1 k)
        ])
      ],
    )

-- A run is in the list exactly where it is in the first that reaches its beginning.
pub block_at_first : {k : ℕ} {R : Type 0} {old left : List Run} {y : Run} (r : Run) → SameFrom k old (y ∷ left) → k ≤ y.last → k ≡ r.first → r.first ≤ r.last → (R ↔ ((n : ℕ) → InRun r n → InRun y n)) → R ↔ ((n : ℕ) → InRun r n → InRuns old n)
block_at_first {left = left} {y} r l reach e p told = (
  λ t n i. (l.same n (omega (arith, i.0))).0 (inl (told.0 t n i)),
  λ inside. told.1 (in_first r y left p l.maximal (omega arith) (λ n i. (l.same n (omega (arith, i.0))).1 (inside n i))),
)

-- And in none where none reaches it.
pub block_at_none : {k : ℕ} {old rest : List Run} (r : Run) → SameFrom k old rest → rest ≡ [] → k ≡ r.first → r.first ≤ r.last → IsTrue false ↔ ((n : ℕ) → InRun r n → InRuns old n)
block_at_none {k} {old} r l none e p = (
  λ t. absurd cc,
  λ inside. absurd (((subst (λ (s : List Run). SameFrom k old s) none l).same r.first (omega arith)).1 (inside r.first (le_refl _, p))),
)

apart_append : (k : ℕ) (f r : List Run) → StandsApart k (f ++ r) → StandsApart k f × StandsApart k r
apart_append k [] r a = (tt, a)
apart_append k (s ∷ f) r a = let h = apart_append k f r a.1 in ((a.0, h.0), h.1)

-- The parts of maximal runs are maximal, and the numbers of the first part are below those of the second.
pub maximal_append : (f r : List Run) → AreMaximal (f ++ r) → AreMaximal f × AreMaximal r × ((m n : ℕ) → InRuns f m → InRuns r n → m < n)
maximal_append [] r m = (tt, m, λ x y i. absurd i)
maximal_append (s ∷ f) r m =
    let h = maximal_append f r m.2 in
    let a = apart_append s.last f r m.1 in (
      (m.0, a.0, h.0),
      h.1,
      λ x y i j. elim i [
        | inl k ↦ omega (arith, k.1, past_gap s.last r y a.1 j)
        | inr k ↦ h.2 x y k j
      ],
    )

-- The three facts of `maximal_append`, for a list and what is left of it.
pub parts_of : {a b rest left : List Run} → (u : InsideUpTo a b rest left) → AreMaximal u.front × AreMaximal rest × ((m n : ℕ) → InRuns u.front m → InRuns rest n → m < n)
parts_of {rest = rest} u = maximal_append u.front rest (subst (λ (s : List Run). AreMaximal s) u.whole u.maximal)

pub up_to_at : {a b rest left s t : List Run} → InsideUpTo a b rest left → rest ≡ s → left ≡ t → InsideUpTo a b s t
up_to_at {a} {b} {rest} {left} {s} u e q = subst (λ (x : List Run). InsideUpTo a b s x) q (subst (λ (x : List Run). InsideUpTo a b x left) e u)

-- The other list goes on to where it reaches the first run.
pub up_to_next : {k : ℕ} {a b behind left next : List Run} {f : Run} → InsideUpTo a b (f ∷ behind) left → SameFrom k left next → k ≡ f.first → InsideUpTo a b (f ∷ behind) next
up_to_next {k} {behind = behind} {f = f} u s e =
    record {
      front = u.front;
      whole = u.whole;
      inside = u.inside;
      maximal = u.maximal;
      left_maximal = s.maximal;
      same = λ n i.
          let low : k ≤ n = omega (arith, least f behind n (parts_of u).1 i) in
          (λ j. (u.same n i).0 ((s.same n low).0 j), λ j. (s.same n low).1 ((u.same n i).1 j));
    }

-- The first run is inside.
pub up_to_step : {a b behind left : List Run} {f y : Run} → InsideUpTo a b (f ∷ behind) (y ∷ left) → ((n : ℕ) → InRun f n → InRun y n) → InsideUpTo a b behind (y ∷ left)
up_to_step {behind = behind} {f = f} u within =
    record {
      front = u.front ++ f ∷ [];
      whole = u.whole ∙ sym (append_assoc u.front (f ∷ []) behind);
      inside = λ n i. elim ((in_snoc u.front f n).0 i) [
        | inl j ↦ u.inside n j
        | inr j ↦ (u.same n (inl j)).0 (inl (within n j))
      ];
      maximal = u.maximal;
      left_maximal = u.left_maximal;
      same = λ n i. u.same n (inr i);
    }

-- Nothing is left that could hold the first run.
pub outside_none : {a b behind : List Run} {f : Run} → InsideUpTo a b (f ∷ behind) [] → FirstOutside (f ∷ behind) []
outside_none {f = f} u = λ h. h f.first (le_refl _, (parts_of u).1.0)

-- The first run isn't inside the one that reaches it.
pub outside_told : {k : ℕ} {a b behind left : List Run} {f y : Run} → InsideUpTo a b (f ∷ behind) (y ∷ left) → k ≤ y.last → k ≡ f.first → (IsTrue false ↔ ((n : ℕ) → InRun f n → InRun y n)) → FirstOutside (f ∷ behind) (y ∷ left)
outside_told {left = left} {f} {y} u reach e told =
    λ inside. let wrong : IsTrue false = told.1 (in_first f y left (parts_of u).1.0 u.left_maximal (omega arith) inside) in absurd cc

pub first_outside_at : (rest left : List Run) {s t : List Run} → rest ≡ s → left ≡ t → FirstOutside s t → FirstOutside rest left
first_outside_at rest left {s} e q o = subst (λ (x : List Run). FirstOutside x left) (sym e) (subst (λ (x : List Run). FirstOutside s x) (sym q) o)

-- A list of which nothing is left is inside.
pub all_inside : {a b left : List Run} → InsideUpTo a b [] left → IsInside a b
all_inside u n i = u.inside n (subst (λ (s : List Run). InRuns s n) (u.whole ∙ append-nil u.front) i)

-- A list of which the first run left isn't inside isn't inside.
pub some_outside : {a b behind left : List Run} {f : Run} → InsideUpTo a b (f ∷ behind) left → FirstOutside (f ∷ behind) left → IsInside a b → ⊥
some_outside {behind = behind} {f = f} u stops inside =
    stops (λ n i. (u.same n (inl i)).1 (inside n (subst (λ (s : List Run). InRuns s n) (sym u.whole) ((in_append u.front (f ∷ behind) n).1 (inr (inl i))))))

-- Whether something is left decides whether the list is inside.
pub inside_told : {A : Type 0} {a b left : List Run} (f : A → Run) (xs : List A) (told : Bool) → InsideUpTo a b (map f xs) left → FirstOutside (map f xs) left → told ≡ nat_eq (length xs) 0 → IsTrue told ↔ IsInside a b
inside_told f [] told u stops t = (λ h. all_inside u, λ h. t ∙ eq-eqb 0 0 refl)
inside_told f (x ∷ xs) told u stops t =
    (λ h. absurd (let none : length (x ∷ xs) ≡ 0 = eqb-true (length (x ∷ xs)) 0 (sym t ∙ h) in omega arith), λ h. absurd (some_outside u stops h))

-- The blocks before those that are left.
pub front_is : {A : Type 0} {front : List Run} (f : A → Run) (xs ys : List A) → map f xs ≡ front ++ map f ys → map f (take (length xs - length ys) xs) ≡ front
front_is {front = front} f xs ys e =
    let sizes : length (map f xs) ≡ length (front ++ map f ys) = ap length e in
    let size : length xs - length ys ≡ length front = omega (arith, length-map xs f, length-map ys f, length-append front (map f ys)) in
    sym (take-map f (length xs - length ys) xs) ∙ ap (take (length xs - length ys)) e ∙ ap (λ (k : ℕ). take k (front ++ map f ys)) size ∙ take-append_seam front (map f ys)

-- A copy of the blocks before those that are left: its runs are the front, they are maximal, and their numbers are
-- below those that are left.
pub cut_is : {A : Type 0} {b left : List Run} {cut : List A} (f : A → Run) (xs ys : List A) (u : InsideUpTo (map f xs) b (map f ys) left) → cut ≡ take (length xs - length ys) xs → map f cut ≡ u.front
cut_is f xs ys u e = ap (map f) e ∙ front_is f xs ys u.whole

pub cut_maximal : {a b rest left cut : List Run} (u : InsideUpTo a b rest left) → cut ≡ u.front → AreMaximal cut
cut_maximal u e = subst (λ (s : List Run). AreMaximal s) (sym e) (parts_of u).0

pub cut_below : {a b rest left cut : List Run} (u : InsideUpTo a b rest left) → cut ≡ u.front → (m n : ℕ) → InRuns cut m → InRuns rest n → m < n
cut_below u e m n i j = (parts_of u).2 m n (subst (λ (s : List Run). InRuns s m) e i) j

-- What is before the first run that is outside, and what of the rest is in the other list, is the intersection.
pub trimmed_is : {a b rest left cut found : List Run} → (u : InsideUpTo a b rest left) → cut ≡ u.front → AddsSet cut found (InBoth rest left) → IsRunsOf (InBoth a b) found
trimmed_is {a} {rest = rest} {left} {found = found} u e s =
    let t = subst (λ (x : List Run). AddsSet x found (InBoth rest left)) e s in
    record {
      maximal = t.maximal;
      same = λ n. (
        λ i. elim ((t.same n).0 i) [
          | inl j ↦ (subst (λ (x : List Run). InRuns x n) (sym u.whole) ((in_append u.front rest n).1 (inl j)), u.inside n j)
          | inr j ↦ (subst (λ (x : List Run). InRuns x n) (sym u.whole) ((in_append u.front rest n).1 (inr j.0)), (u.same n j.0).0 j.1)
        ],
        λ i. (t.same n).1 (elim ((in_append u.front rest n).0 (subst (λ (x : List Run). InRuns x n) u.whole i.0)) [
          | inl j ↦ inl j
          | inr j ↦ inr (j, (u.same n j).1 i.1)
        ]),
      );
    }

-- Where blocks in the order of their beginnings are added to others: what is found, and what is left.
pub record Joins (P : ℕ → Type 0) (found rest : List Run) : Type 0 where
  pub maximal : AreMaximal found
  pub ascending : AreAscending rest
  pub order : BeginByFirst found rest
  pub same : (n : ℕ) → (InRuns found n ⊎ InRuns rest n) ↔ P n

pub joins_at : {P : ℕ → Type 0} {found rest s : List Run} → Joins P found rest → rest ≡ s → Joins P found s
joins_at {P} {found} j e = subst (λ (x : List Run). Joins P found x) e j

joins_order : (found rest : List Run) (f : Run) → AreAscending (f ∷ rest) → BeginBy f.first found → AreAscending rest × BeginByFirst found rest
joins_order found [] f a b = (tt, tt)
joins_order found (r ∷ rest) f a b = (a.1, begin_mono found f.first r.first b a.0)

pub joins_step : {P : ℕ → Type 0} {found next behind : List Run} {f : Run} → Joins P found (f ∷ behind) → Adds found next f → Joins P next behind
joins_step {next = next} {behind} {f} j s =
    let o = joins_order next behind f j.ascending s.order in
    record {
      maximal = s.maximal;
      ascending = o.0;
      order = o.1;
      same = λ n. (
        λ i. (j.same n).0 (elim i [
          | inl k ↦ elim ((s.same n).0 k) [ inl x ↦ inl x | inr x ↦ inr (inl x) ]
          | inr k ↦ inr (inr k)
        ]),
        λ i. elim ((j.same n).1 i) [
          | inl k ↦ inl ((s.same n).1 (inl k))
          | inr k ↦ elim k [ inl x ↦ inl ((s.same n).1 (inr x)) | inr x ↦ inr x ]
        ],
      );
    }

-- Where nothing is there yet, blocks may begin anywhere.
pub begins_none : (rest : List Run) → BeginByFirst [] rest
begins_none [] = tt
begins_none (r ∷ rest) = tt

-- Maximal runs ascend.
pub maximal_ascends : (rs : List Run) → AreMaximal rs → AreAscending rs
maximal_ascends [] m = tt
maximal_ascends (r ∷ []) m = tt
maximal_ascends (r ∷ s ∷ rs) m = (let p : r.first ≤ r.last = m.0 in let a : r.last + 1 < s.first = m.1.0 in omega arith, maximal_ascends (s ∷ rs) m.2)

-- What two lists have found of their union, and what is left of both.
pub record Merges (P : ℕ → Type 0) (found left right : List Run) : Type 0 where
  pub maximal : AreMaximal found
  pub left_maximal : AreMaximal left
  pub right_maximal : AreMaximal right
  pub left_order : BeginByFirst found left
  pub right_order : BeginByFirst found right
  pub same : (n : ℕ) → (InRuns found n ⊎ (InRuns left n ⊎ InRuns right n)) ↔ P n

pub merges_at : {P : ℕ → Type 0} {found left right s t : List Run} → Merges P found left right → left ≡ s → right ≡ t → Merges P found s t
merges_at {P} {found} {left} {right} {s} m e q = subst (λ (x : List Run). Merges P found s x) q (subst (λ (x : List Run). Merges P found x right) e m)

merges_swap : {P : ℕ → Type 0} {found left right : List Run} → Merges P found left right → Merges P found right left
merges_swap m =
    record {
      maximal = m.maximal;
      left_maximal = m.right_maximal;
      right_maximal = m.left_maximal;
      left_order = m.right_order;
      right_order = m.left_order;
      same = λ n. (
        λ i. (m.same n).0 (elim i [ inl j ↦ inl j | inr j ↦ elim j [ inl k ↦ inr (inr k) | inr k ↦ inr (inl k) ] ]),
        λ i. elim ((m.same n).1 i) [ inl j ↦ inl j | inr j ↦ elim j [ inl k ↦ inr (inr k) | inr k ↦ inr (inl k) ] ],
      );
    }

begins_on : (found rest : List Run) (k : ℕ) → BeginBy k found → BeginFrom k rest → BeginByFirst found rest
begins_on found [] k b f = tt
begins_on found (r ∷ rest) k b f = begin_mono found k r.first b f

behind_from : (x : Run) (rest : List Run) → AreMaximal (x ∷ rest) → BeginFrom x.first rest
behind_from x [] m = tt
behind_from x (r ∷ rest) m = let p : x.first ≤ x.last = m.0 in let a : x.last + 1 < r.first = m.1.0 in omega arith

-- The run on the left begins first.
pub merges_left : {P : ℕ → Type 0} {found next left right : List Run} {x : Run} {k : ℕ} → Merges P found (x ∷ left) right → Adds found next x → k ≡ x.first → BeginFrom k right → Merges P next left right
merges_left {next = next} {left} {right} {x} m s e f =
    record {
      maximal = s.maximal;
      left_maximal = m.left_maximal.2;
      right_maximal = m.right_maximal;
      left_order = begins_on next left x.first s.order (behind_from x left m.left_maximal);
      right_order = begins_on next right x.first s.order (subst (λ (j : ℕ). BeginFrom j right) e f);
      same = λ n. (
        λ i. (m.same n).0 (elim i [
          | inl j ↦ elim ((s.same n).0 j) [ inl k ↦ inl k | inr k ↦ inr (inl (inl k)) ]
          | inr j ↦ elim j [ inl k ↦ inr (inl (inr k)) | inr k ↦ inr (inr k) ]
        ]),
        λ i. elim ((m.same n).1 i) [
          | inl j ↦ inl ((s.same n).1 (inl j))
          | inr j ↦ elim j [
            | inl k ↦ elim k [ inl w ↦ inl ((s.same n).1 (inr w)) | inr w ↦ inr (inl w) ]
            | inr k ↦ inr (inr k)
          ]
        ],
      );
    }

-- The run on the right begins first.
pub merges_right : {P : ℕ → Type 0} {found next left right : List Run} {x y : Run} {k : ℕ} → Merges P found (x ∷ left) (y ∷ right) → Adds found next y → k ≡ x.first → y.first < k → Merges P next (x ∷ left) right
merges_right {x = x} {y} m s e f = merges_swap (merges_left (merges_swap m) s refl (omega arith))
