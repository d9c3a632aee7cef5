-- Providers in their order: what may stand after them, and that just the lawful ones follow one another.
use Rattle.std.proofs.Common.{◌≡◌, ◌≢◌, ℕ, ◌+◌, ◌<◌, ◌≤◌, List, [], ◌∷◌, ◌++◌, length, length-append, Option, Some, None, inl, inr, refl, sym, ap, ◌∙◌, subst, arith}
use Rattle.objects_payload.specs.resources_asn.Listed.{InList, IsBelow, IsAscending}
use Rattle.objects_payload.specs.declared.aspa.run.Run.{Run}
use Rattle.objects_payload.specs.Lists.{AreLawful}
use Rattle.objects_payload.specs.Orders.{Admits, Follow, IsRunOf, MayFollow, last_of}

-- One provider more.

follow_more : (c : ℕ) (before : Option ℕ) (xs : List ℕ) (n : ℕ) → Follow c before xs → MayFollow (last_of before xs) n → n ≢ c → Follow c before (xs ++ n ∷ [])
follow_more c before [] n f m other = (m, other, tt)
follow_more c before (x ∷ xs) n f m other = (f.0, f.1, follow_more c (Some x) xs n f.2 m other)

follow_first : (c : ℕ) (before : Option ℕ) (xs : List ℕ) (n : ℕ) (ys : List ℕ) → Follow c before (xs ++ n ∷ ys) → MayFollow (last_of before xs) n × (n ≢ c)
follow_first c before [] n ys f = (f.0, f.1)
follow_first c before (x ∷ xs) n ys f = follow_first c (Some x) xs n ys f.2

last_more : (before : Option ℕ) (xs : List ℕ) (n : ℕ) → last_of before (xs ++ n ∷ []) ≡ Some n
last_more before [] n = refl
last_more before (x ∷ xs) n = last_more (Some x) xs n

-- Lawful providers follow one another.

no_more : (x : ℕ) (xs : List ℕ) → x ∷ xs ≡ 0 ∷ [] → xs ≡ []
no_more x [] e = refl
no_more x (y ∷ ys) e = let wrong : 2 ≤ 1 = subst (λ (l : List ℕ). 2 ≤ length l) e (omega arith) in absurd (omega arith)

lawful_behind : (c m : ℕ) (xs : List ℕ) → (m ≡ 0 → xs ≡ []) → IsBelow m xs → IsAscending xs → (InList xs c → ⊥) → Follow c (Some m) xs
lawful_behind c m [] zero below ascends other = tt
lawful_behind c m (x ∷ xs) zero below ascends other = (
  (λ e. some x xs (zero e), below.0),
  λ e. other (inl (sym e)),
  lawful_behind c x xs (λ e. absurd (let h = below.0 in omega arith)) ascends.0 ascends.1 (λ i. other (inr i)),
)
  where
    some : (x : ℕ) (xs : List ℕ) → x ∷ xs ≡ [] → ⊥
    some x xs e = absurd cc

pub lawful_follow : (c : ℕ) (xs : List ℕ) → AreLawful c xs → Follow c None xs
lawful_follow c [] l = tt
lawful_follow c (x ∷ xs) l = (
  tt,
  λ e. l.not_own (inl (sym e)),
  lawful_behind c x xs (λ e. no_more x xs (l.zero_alone (inl (sym e)))) l.ascending.0 l.ascending.1 (λ i. l.not_own (inr i)),
)

-- And those that do are lawful.

lower : (m n : ℕ) (xs : List ℕ) → m < n → IsBelow n xs → IsBelow m xs
lower m n [] h b = tt
lower m n (x ∷ xs) h b = (let k = b.0 in omega arith, lower m n xs h b.1)

record Above (c m : ℕ) (xs : List ℕ) : Type 0 where
  below : IsBelow m xs
  ascends : IsAscending xs
  other : InList xs c → ⊥

above : (c m : ℕ) (xs : List ℕ) → Follow c (Some m) xs → Above c m xs
above c m [] f = record { below = tt; ascends = tt; other = λ i. i }
above c m (x ∷ xs) f =
    let r = above c x xs f.2 in
    record {
      below = (f.0.1, lower m x xs f.0.1 r.below);
      ascends = (r.below, r.ascends);
      other = λ i. elim i [ inl e ↦ f.1 (sym e) | inr j ↦ r.other j ];
    }

none_zero : (m : ℕ) (xs : List ℕ) → IsBelow m xs → InList xs 0 → ⊥
none_zero m [] b i = i
none_zero m (x ∷ xs) b i = elim i [ inl e ↦ (let h = b.0 in omega arith) | inr j ↦ none_zero m xs b.1 j ]

zero_alone : (c x : ℕ) (xs : List ℕ) → 0 ≡ x → Follow c (Some x) xs → x ∷ xs ≡ 0 ∷ []
zero_alone c x [] e f = ap (λ (n : ℕ). n ∷ []) (sym e)
zero_alone c x (y ∷ ys) e f = absurd (f.0.0 (sym e))

pub follow_lawful : (c : ℕ) (xs : List ℕ) → Follow c None xs → 1 ≤ length xs → length xs ≤ 10000 → AreLawful c xs
follow_lawful c [] f some few = absurd (omega arith)
follow_lawful c (x ∷ xs) f some few =
    let r = above c x xs f.2 in
    record {
      some = some;
      few = few;
      ascending = (r.below, r.ascends);
      not_own = λ i. elim i [ inl e ↦ f.1 (sym e) | inr j ↦ r.other j ];
      zero_alone = λ i. elim i [ inl e ↦ zero_alone c x xs e f.2 | inr j ↦ absurd (none_zero x xs r.below j) ];
    }

-- Runs.

pub run_begin : (c : ℕ) (run : Run) → run.count ≡ 0 → run.last ≡ None → IsRunOf c [] run
run_begin c run count last = record { follow = tt; count = sym count; few = omega arith; last = sym last }

pub run_more : (c : ℕ) (xs : List ℕ) (run longer : Run) (n : ℕ) → IsRunOf c xs run → Admits c run n → longer.count ≡ run.count + 1 → longer.last ≡ Some n → IsRunOf c (xs ++ n ∷ []) longer
run_more c xs run longer n is a count last = record {
  follow = follow_more c None xs n is.follow (subst (λ (o : Option ℕ). MayFollow o n) (sym is.last) a.follows) a.other;
  count = let l = length-append xs (n ∷ []) in let h = is.count in omega arith;
  few = let h = a.few in omega arith;
  last = last_more None xs n ∙ sym last;
}

pub run_never : (c : ℕ) (xs ys : List ℕ) (run longer : Run) (n : ℕ) → (Admits c run n → ⊥) → IsRunOf c xs run → IsRunOf c (xs ++ n ∷ ys) longer → ⊥
run_never c xs ys run longer n none is more =
    let f = follow_first c None xs n ys more.follow in
    none (record {
      few = let l = length-append xs (n ∷ ys) in let h = is.count in let k = more.count in let m = more.few in omega arith;
      follows = subst (λ (o : Option ℕ). MayFollow o n) is.last f.0;
      other = f.1;
    })

pub run_of : (c : ℕ) (xs : List ℕ) → AreLawful c xs → (run : Run) × IsRunOf c xs run
run_of c xs l = (record { count = length xs; last = last_of None xs }, record { follow = lawful_follow c xs l; count = refl; few = l.few; last = refl })
