-- Ascending lists of numbers.
use Rattle.std.proofs.Common.{◌≡◌, ℕ, ◌<◌, ◌⊎◌, ◌↔◌, List, [], ◌∷◌, ◌++◌, inl, inr, refl, sym, arith}
use Rattle.resources_asn.specs.Listed.{InList, IsBelow, IsAscending, IsListOf}

-- A number below a list is below each of its numbers, and the other way round.
pub below_each : (n : ℕ) (xs : List ℕ) → IsBelow n xs → (k : ℕ) → InList xs k → n < k
below_each n [] b k i = absurd i
below_each n (x ∷ xs) b k i = elim i [ inl e ↦ (let h = b.0 in omega arith) | inr j ↦ below_each n xs b.1 k j ]

pub each_below : (n : ℕ) (xs : List ℕ) → ((k : ℕ) → InList xs k → n < k) → IsBelow n xs
each_below n [] h = tt
each_below n (x ∷ xs) h = (h x (inl refl), each_below n xs (λ k i. h k (inr i)))

-- A set's list after its least number is the list of the others.
pub list_cons : {P Q : ℕ → Type 0} (x : ℕ) (xs : List ℕ) → IsListOf Q xs → ((n : ℕ) → Q n → x < n) → ((n : ℕ) → P n ↔ ((n ≡ x) ⊎ Q n)) → IsListOf P (x ∷ xs)
list_cons x xs q least same = record {
  ascending = (each_below x xs (λ k i. least k ((q.same k).0 i)), q.ascending);
  same = λ n. (
    λ i. (same n).1 (elim i [ inl e ↦ inl e | inr j ↦ inr ((q.same n).0 j) ]),
    λ p. elim ((same n).0 p) [ inl e ↦ inl e | inr j ↦ inr ((q.same n).1 j) ],
  );
}

pub list_nil : {P : ℕ → Type 0} → ((n : ℕ) → P n → ⊥) → IsListOf P []
list_nil none = record { ascending = tt; same = λ n. (λ i. absurd i, λ p. none n p) }

-- Two ascending lists of the same numbers are one.
pub one_list : (xs ys : List ℕ) → IsAscending xs → IsAscending ys → ((n : ℕ) → InList xs n ↔ InList ys n) → xs ≡ ys
one_list [] [] a b same = refl
one_list [] (y ∷ ys) a b same = absurd ((same y).1 (inl refl))
one_list (x ∷ xs) [] a b same = absurd ((same x).0 (inl refl))
one_list (x ∷ xs) (y ∷ ys) a b same =
    let heads : x ≡ y = one_head x y xs ys a b same in
    let tails : xs ≡ ys = one_list xs ys a.1 b.1 (λ n. (λ i. one_tail x y xs ys heads a b same n i, λ i. one_tail y x ys xs (sym heads) b a (λ k. ((same k).1, (same k).0)) n i)) in
    cc
  where
    one_head : (x y : ℕ) (xs ys : List ℕ) → IsAscending (x ∷ xs) → IsAscending (y ∷ ys) → ((n : ℕ) → InList (x ∷ xs) n ↔ InList (y ∷ ys) n) → x ≡ y
    one_head x y xs ys a b same =
        elim ((same x).0 (inl refl)) [
          | inl e ↦ e
          | inr j ↦ elim ((same y).1 (inl refl)) [
            | inl e ↦ sym e
            | inr k ↦ (let p : y < x = below_each y ys b.0 x j in let q : x < y = below_each x xs a.0 y k in omega arith)
          ]
        ]

    one_tail : (x y : ℕ) (xs ys : List ℕ) → x ≡ y → IsAscending (x ∷ xs) → IsAscending (y ∷ ys) → ((n : ℕ) → InList (x ∷ xs) n ↔ InList (y ∷ ys) n) → (n : ℕ) → InList xs n → InList ys n
    one_tail x y xs ys e a b same n i =
        elim ((same n).0 (inr i)) [
          | inl f ↦ (let p : x < n = below_each x xs a.0 n i in absurd (omega arith))
          | inr j ↦ j
        ]

pub same_list : {P Q : ℕ → Type 0} (xs ys : List ℕ) → IsListOf P xs → IsListOf Q ys → ((n : ℕ) → P n ↔ Q n) → xs ≡ ys
same_list xs ys a b same =
    one_list xs ys a.ascending b.ascending (λ n. (λ i. (b.same n).1 ((same n).0 ((a.same n).0 i)), λ i. (a.same n).1 ((same n).1 ((b.same n).0 i))))

-- A list after another whose numbers are all smaller.
pub list_append : {P Q R : ℕ → Type 0} (xs ys : List ℕ) → IsListOf P xs → IsListOf Q ys → ((m n : ℕ) → P m → Q n → m < n) → ((n : ℕ) → R n ↔ (P n ⊎ Q n)) → IsListOf R (xs ++ ys)
list_append xs ys a b apart same = record {
  ascending = ascends xs ys a.ascending b.ascending (λ m n i j. apart m n ((a.same m).0 i) ((b.same n).0 j));
  same = λ n. (
    λ i. (same n).1 (elim (appended_back xs ys n i) [ inl j ↦ inl ((a.same n).0 j) | inr j ↦ inr ((b.same n).0 j) ]),
    λ r. elim ((same n).0 r) [ inl p ↦ appended_left xs ys n ((a.same n).1 p) | inr q ↦ appended_right xs ys n ((b.same n).1 q) ],
  );
}
  where
    appended_left : (xs ys : List ℕ) (n : ℕ) → InList xs n → InList (xs ++ ys) n
    appended_left [] ys n i = absurd i
    appended_left (x ∷ xs) ys n i = elim i [ inl e ↦ inl e | inr j ↦ inr (appended_left xs ys n j) ]

    appended_right : (xs ys : List ℕ) (n : ℕ) → InList ys n → InList (xs ++ ys) n
    appended_right [] ys n i = i
    appended_right (x ∷ xs) ys n i = inr (appended_right xs ys n i)

    appended_back : (xs ys : List ℕ) (n : ℕ) → InList (xs ++ ys) n → InList xs n ⊎ InList ys n
    appended_back [] ys n i = inr i
    appended_back (x ∷ xs) ys n i =
        elim i [ inl e ↦ inl (inl e) | inr j ↦ elim (appended_back xs ys n j) [ inl k ↦ inl (inr k) | inr k ↦ inr k ] ]

    ascends : (xs ys : List ℕ) → IsAscending xs → IsAscending ys → ((m n : ℕ) → InList xs m → InList ys n → m < n) → IsAscending (xs ++ ys)
    ascends [] ys a b apart = b
    ascends (x ∷ xs) ys a b apart = (
      each_below x (xs ++ ys) (λ k i. elim (appended_back xs ys k i) [ inl j ↦ below_each x xs a.0 k j | inr j ↦ apart x k (inl refl) j ]),
      ascends xs ys a.1 b (λ m n i j. apart m n (inr i) j),
    )
