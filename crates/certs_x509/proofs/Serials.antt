-- The serial numbers of a list, collected and sorted.
use Rattle.std.proofs.Common.{◌≡◌, ◌↔◌, ℕ, false, true, nat_eq, IsTrue, List, [], ◌∷◌, Result, Ok, Err, IfOk, inl, inr, refl, sym, ap, ◌∙◌, subst, append-nil, append_assoc, length, arith, zero, suc, ◌++◌, ◌<◌, Contains, slice_index, slice_index_or}
use Rattle.std.proofs.Math.Logic.{∥∥₁_elim}
use Rattle.std.specs.Cmp.{nat_cmp_is, ranks}
use Rattle.std.specs.Ordering.{MatchOrdering, nat_cmp}
use Rattle.std.specs.List.{dedup}
use Rattle.std.specs.Prelude.{MatchOption, Option, Some, None, is_some}
use Rattle.std.specs.declared.cmp.Ordering.TheVariants.{Less, Equal, Greater}
use Rattle.std.specs.List.Retain.{DiffersFromLast, IsFiltered}
use Rattle.std.specs.List.Sorted.{IsPermutation, IsSorted, IsStrictlyIncreasing}
use Rattle.std.proofs.lemmas.Bool.{cases_lt}
use Rattle.std.proofs.lemmas.List.Filters.{dedup_is}
use Rattle.std.proofs.lemmas.List.Kept.{Contains-dedup_nat, Contains-from_dedup}
use Rattle.std.proofs.lemmas.List.Sorted.{Contains-permutation, IsPermutation-sym}
use Rattle.std.proofs.lemmas.Map.Keys.{IsStrictlyIncreasing-dedup, below_from_sorted, sorted_from_strictly_increasing}
use Rattle.certs_x509.specs.resources_chain.Rows.{IsOrdered}
use Rattle.std.specs.Coded.{Coded-set, coded_list, coded_ℕ}
use Rattle.certs_x509.specs.bcder_tree.declared.mode.Mode.{Mode}
use Rattle.certs_x509.specs.bcder_tree.Tags.{sequence_tag}
use Rattle.certs_x509.specs.bcder_content.Contents.{ValuesLeft, Unlike}
use Rattle.certs_x509.specs.bcder_content.Exact.{Gives}
use Rattle.certs_x509.specs.bcder_content.Kept.{CapturedValue}
use Rattle.certs_x509.specs.certs_basics.Lists.{Mem}
use Rattle.certs_extension.specs.CrlText.{IsRevoked, RevokedValue}
use Rattle.certs_x509.specs.Listed.{EntriesLeft, IsListed, SpellsEntries, serials_of}
use Rattle.certs_x509.specs.Listing.{Listing}
use Rattle.certs_x509.proofs.Lists.{left_first, left_none}

-- The serial numbers so far, and those of the entries that are left, are those of the list.
pub record Collected (serials : List ℕ) (start now : ValuesLeft) : Type 0 where
  pub behind : (xs : List RevokedValue) → EntriesLeft start xs → (ys : List RevokedValue) × EntriesLeft now ys × (serials_of xs ≡ serials ++ serials_of ys)

pub collected_more : {serials more : List ℕ} {start now new : ValuesLeft} {x : RevokedValue} → Collected serials start now → Gives IsRevoked now x new
    → more ≡ serials ++ x.serial ∷ [] → Collected more start new
collected_more {serials} {more} {x = x} p g e = record {
  behind = λ xs l.
      let b = p.behind xs l in
      let n = left_first b.1 g in
      (n.others, n.left, b.2 ∙ ap (λ (z : List RevokedValue). serials ++ serials_of z) n.whole ∙ sym (append_assoc serials (x.serial ∷ []) (serials_of n.others)) ∙ ap (λ (z : List ℕ). z ++ serials_of n.others) (sym e));
}

pub collected_all : {serials : List ℕ} {start now new : ValuesLeft} → Collected serials start now → (new ≡ now) × Unlike now sequence_tag
    → (xs : List RevokedValue) → EntriesLeft start xs → serials ≡ serials_of xs
collected_all {serials} p u xs l =
    let b = p.behind xs l in
    sym (b.2 ∙ ap (λ (z : List RevokedValue). serials ++ serials_of z) (left_none b.1 u.1) ∙ append-nil serials)

-- What was collected of a list's octets are the serial numbers of the list.
pub serials_are : (c : CapturedValue) (x : Listing c) (xs : List RevokedValue) (m : Mode) (o : List ℕ) (found : List ℕ) → x.0 ≡ xs → m ≡ c.mode → o ≡ c.octets
    → ((ys : List RevokedValue) → SpellsEntries (record { mode = m; octets = o }) ys → found ≡ serials_of ys) → found ≡ serials_of xs
serials_are c x xs m o found e mode octets h =
    ∥∥₁_elim x.1 (Coded-set (coded_list coded_ℕ) _ _) (λ s.
    h x.0 (subst (λ (n : Mode). SpellsEntries (record { mode = n; octets = o }) x.0) (sym mode) (subst (λ (p : List ℕ). SpellsEntries (record { mode = c.mode; octets = p }) x.0) (sym octets) s))
    ∙ ap serials_of e)

pub listed_contains : (xs : List RevokedValue) (n : ℕ) (entry : RevokedValue) → Mem xs entry → entry.serial ≡ n → Contains (serials_of xs) n
listed_contains [] n entry m e = absurd m
listed_contains (x ∷ xs) n entry m e = elim m [
  | inl is ↦ (0, omega arith, ap (λ (z : RevokedValue). z.serial) is ∙ e)
  | inr other ↦ let c = listed_contains xs n entry other e in (suc c.0, omega (arith, c.1), c.2)
]

pub contains_listed : (xs : List RevokedValue) (n k : ℕ) → k < length (serials_of xs) → slice_index_or (serials_of xs) k n ≡ n → IsListed xs n
contains_listed [] n k l e = absurd (omega arith)
contains_listed (x ∷ xs) n zero l e = record { entry = x; listed = inl refl; same = e }
contains_listed (x ∷ xs) n (suc k) l e = let i = contains_listed xs n k (omega arith) e in record { entry = i.entry; listed = inr i.listed; same = i.same }

-- Sorted, and each number once: the numbers are the same.
pub sorted_same : (xs : List RevokedValue) (found sorted once : List ℕ) → found ≡ serials_of xs → IsPermutation found sorted → IsFiltered (DiffersFromLast nat_eq) [] sorted once
    → (n : ℕ) → Contains once n ↔ IsListed xs n
sorted_same xs found sorted once e p f n =
    let is : once ≡ dedup nat_eq sorted = dedup_is nat_eq sorted once f in (
      λ c.
          let d = Contains-from_dedup nat_eq sorted n (subst (λ (l : List ℕ). Contains l n) is c) in
          let k = subst (λ (l : List ℕ). Contains l n) e (Contains-permutation sorted found n (IsPermutation-sym found sorted p) d) in
          contains_listed xs n k.0 k.1 k.2,
      λ l.
          let d = listed_contains xs n l.entry l.listed l.same in
          subst (λ (z : List ℕ). Contains z n) (sym is) (Contains-dedup_nat sorted n (Contains-permutation found sorted n p (subst (λ (z : List ℕ). Contains z n) (sym e) d))),
    )

pub sorted_rises : (sorted once : List ℕ) → IsSorted nat_cmp sorted → IsFiltered (DiffersFromLast nat_eq) [] sorted once → IsStrictlyIncreasing once
sorted_rises sorted once s f = subst IsStrictlyIncreasing (sym (dedup_is nat_eq sorted once f)) (IsStrictlyIncreasing-dedup sorted s)

-- Rising numbers stand before one that is sought, then at it, then after it.
pub rises_ordered : (xs : List ℕ) (n : ℕ) → IsStrictlyIncreasing xs → IsOrdered (length xs) (λ k. nat_cmp (slice_index xs k) n)
rises_ordered xs n h i j a b =
    let below : slice_index xs i < slice_index xs j = below_from_sorted xs i j 0 (sorted_from_strictly_increasing xs h) a b in
    elim (cases_lt (slice_index xs i) n) [
      | inl lt ↦ inl (sym (nat_cmp_is (slice_index xs i) n Less lt))
      | inr ge ↦ inr (sym (nat_cmp_is (slice_index xs j) n Greater (omega arith)))
    ]

pub at_it : (x n : ℕ) → nat_cmp x n ≡ Equal → x ≡ n
at_it x n e = subst (λ r. MatchOrdering r (x < n) (x ≡ n) (n < x)) e (ranks x n)

-- What stands at a place, whatever is answered where none does.
at_any : (ys : List ℕ) (k e d m : ℕ) → k < length ys → slice_index_or ys k e ≡ m → slice_index_or ys k d ≡ m
at_any [] k e d m l p = absurd (omega arith)
at_any (y ∷ ys) zero e d m l p = p
at_any (y ∷ ys) (suc k) e d m l p = at_any ys k e d m (omega arith) p

pub not_at_it : (xs : List ℕ) (n : ℕ) → ((k : ℕ) → k < length xs → nat_cmp (slice_index xs k) n ≡ Equal → ⊥) → Contains xs n → ⊥
not_at_it xs n h c = h c.0 c.1 (sym (nat_cmp_is (slice_index xs c.0) n Equal (at_any xs c.0 n 0 n c.1 c.2)))

pub collected_are : {V E : Type 0} (items : V → List ℕ) (c : CapturedValue) (x : Listing c) (xs : List RevokedValue) (m : Mode) (o : List ℕ) (r : Result V E) → x.0 ≡ xs → m ≡ c.mode → o ≡ c.octets
    → ((ys : List RevokedValue) → SpellsEntries (record { mode = m; octets = o }) ys → IfOk r (λ v. items v ≡ serials_of ys)) → IfOk r (λ v. items v ≡ serials_of xs)
collected_are items c x xs m o (Ok v) e mode octets h = serials_are c x xs m o (items v) e mode octets h
collected_are items c x xs m o (Err f) e mode octets h = tt

-- The place that halving found.
pub place_is : (xs now : List ℕ) (n : ℕ) (r : Option ℕ) → xs ≡ now
    → MatchOption r ((k : ℕ) → k < length xs → nat_cmp (slice_index xs k) n ≡ Equal → ⊥) (λ k. (k < length xs) × (nat_cmp (slice_index xs k) n ≡ Equal))
    → MatchOption r (Contains now n → ⊥) (λ k. (k < length now) × (slice_index now k ≡ n))
place_is xs now n None e h = subst (λ (l : List ℕ). Contains l n → ⊥) e (not_at_it xs n h)
place_is xs now n (Some k) e h = subst (λ (l : List ℕ). (k < length l) × (slice_index l k ≡ n)) e (h.0, at_it (slice_index xs k) n h.1)

-- A place was found exactly where the number is there.
pub place_tells : (now : List ℕ) (n : ℕ) (r : Option ℕ) → MatchOption r (Contains now n → ⊥) (λ k. (k < length now) × (slice_index now k ≡ n))
    → IsTrue (is_some r) ↔ Contains now n
place_tells now n None h = (λ t. let wrong : false ≡ true = t in absurd cc, λ c. absurd (h c))
place_tells now n (Some k) h = (λ t. (k, h.0, at_any now k 0 n n h.0 h.1), λ c. refl)
