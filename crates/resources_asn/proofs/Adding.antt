-- An AS number that is put in its place among those that ascend.
use Rattle.std.proofs.Common.{◌≡◌, ℕ, ◌<◌, ◌≤◌, ◌⊎◌, ◌↔◌, List, [], ◌∷◌, inl, inr, suc, zero, sym, subst, ap, ◌∙◌, arith, get_or}
use Rattle.std.specs.Prelude.{Result, Ok, Err, OnErr, length}
use Rattle.std.specs.List.{insert}
use Rattle.std.specs.List.Sorted.{IsNonDecreasingBy, IsPartitionPoint}
use Rattle.std.specs.Ordering.{nat_cmp, ordering_index}
use Rattle.std.specs.declared.cmp.Ordering.TheVariants.{Less, Equal, Greater}
use Rattle.std.proofs.lemmas.Cmp.{ranked}
use Rattle.resources_asn.specs.Chosen.{values}
use Rattle.resources_asn.specs.Listed.{InList, IsAscending, IsBelow, IsListOf}
use Rattle.resources_asn.specs.Numbers.{Number}
use Rattle.resources_asn.proofs.ListLemmas.{below_each, list_cons}
use Rattle.resources_asn.proofs.SmallLemmas.{ascends_at, at_place, index_up, not_found}

-- What a search by halves of a set's AS numbers tells.
abbrev pub EndsAt : List Number → ℕ → ℕ → Type 0
EndsAt us n i =
    IsNonDecreasingBy (λ (y : Number). ordering_index (nat_cmp y.value n)) us → IsPartitionPoint (λ (y : Number). nat_cmp y.value n ≡ Less) (λ (y : Number). nat_cmp y.value n ≡ Greater) us i

-- A place: the AS numbers before it are smaller, and those from it on greater.
pub record IsPlace (us : List Number) (n place : ℕ) : Type 0 where
  pub before : (k : ℕ) (d : Number) → k < place → (get_or us k d).value < n
  pub after : (k : ℕ) (d : Number) → place ≤ k → k < length us → n < (get_or us k d).value

-- Where a search by halves ends without having found it.
pub place_found : (us : List Number) (n i : ℕ) → IsAscending (values us)
    → EndsAt us n i → IsPlace us n i
place_found us n i up part =
    let p = part (λ a b d l m. index_up (get_or us a d).value (get_or us b d).value n (ascends_at us up a b d l m)) in
    record {
      before = λ k d l. ranked (get_or us k d).value n Less (sym (p.0 k d (omega arith) l));
      after = λ k d l m. ranked (get_or us k d).value n Greater (sym (p.1 k d l m));
    }

-- One AS number more, in its place.
head_of : (u : Number) (us : List Number) (n i : ℕ) → IsPlace (u ∷ us) n (suc i) → IsPlace us n i
head_of u us n i p = record { before = λ k d h. p.before (suc k) d (omega arith); after = λ k d h m. p.after (suc k) d (omega arith) (omega arith) }

all_above : (us : List Number) (a : Number) → IsPlace us a.value zero → IsBelow a.value (values us)
all_above [] a p = tt
all_above (u ∷ us) a p = (p.after 0 u (omega arith) (omega arith), all_above us a (record { before = λ k d h. absurd (omega arith); after = λ k d h m. p.after (suc k) d (omega arith) (omega arith) }))

swapped : {A B C : Type 0} → (A ⊎ (B ⊎ C)) ↔ (B ⊎ (A ⊎ C))
swapped = (
  λ x. elim x [ inl a ↦ inr (inl a) | inr y ↦ elim y [ inl b ↦ inl b | inr c ↦ inr (inr c) ] ],
  λ x. elim x [ inl b ↦ inr (inl b) | inr y ↦ elim y [ inl a ↦ inl a | inr c ↦ inr (inr c) ] ],
)

pub inserted : (us : List Number) (i : ℕ) (a : Number) → IsAscending (values us) → i ≤ length us → IsPlace us a.value i → IsListOf (λ n. (n ≡ a.value) ⊎ InList (values us) n) (values (insert us i a))
inserted [] zero a up l p = record { ascending = (tt, tt); same = λ n. (λ j. j, λ j. j) }
inserted [] (suc i) a up l p = absurd (omega arith)
inserted (u ∷ us) zero a up l p = record { ascending = (all_above (u ∷ us) a p, up); same = λ n. (λ j. j, λ j. j) }
inserted (u ∷ us) (suc i) a up l p =
    let small : u.value < a.value = p.before 0 u (omega arith) in
    list_cons u.value (values (insert us i a)) (inserted us i a up.1 (omega arith) (head_of u us a.value i p))
    (λ n q. elim q [ inl e ↦ omega arith | inr j ↦ below_each u.value (values us) up.0 n j ])
    (λ n. swapped)

-- It is there, where it is found; then the list is that of one more, too.
pub found : (us sought : List Number) (numbers : List ℕ) (a : Number) (i : ℕ) → sought ≡ us → values us ≡ numbers → i < length sought → ((d : Number) → nat_cmp (get_or sought i d).value a.value ≡ Equal) → InList numbers a.value
found us sought numbers a i same view l is =
    subst (λ (ms : List ℕ). InList ms a.value) (ap values same ∙ view) (at_place sought a.value i a l (ranked (get_or sought i a).value a.value Equal (sym (is a))))

pub one_there : (numbers : List ℕ) (n : ℕ) → IsAscending numbers → InList numbers n → IsListOf (λ k. (k ≡ n) ⊎ InList numbers k) numbers
one_there numbers n up i = record {
  ascending = up;
  same = λ k. (λ j. inr j, λ j. elim j [ inl e ↦ subst (InList numbers) (sym e) i | inr h ↦ h ]);
}

-- It isn't there, where it isn't found; and what is made then is the list of one more.
pub absent : (us sought : List Number) (numbers : List ℕ) (n i : ℕ) → sought ≡ us → values us ≡ numbers → IsAscending (values us) → EndsAt sought n i → InList numbers n → ⊥
absent us sought numbers n i same view up ends j =
    not_found us n i up (subst (λ (ws : List Number). EndsAt ws n i) same ends) (subst (λ (ms : List ℕ). InList ms n) (sym view) j)

pub added : (us sought made : List Number) (numbers : List ℕ) (a : Number) (i : ℕ) → sought ≡ us → values us ≡ numbers → IsAscending (values us) → i ≤ length sought → EndsAt sought a.value i → made ≡ insert us i a
    → IsListOf (λ n. (n ≡ a.value) ⊎ InList numbers n) (values made)
added us sought made numbers a i same view up l ends is =
    let at : IsPlace us a.value i = place_found us a.value i up (subst (λ (ws : List Number). EndsAt ws a.value i) same ends) in
    let here = inserted us i a up (subst (λ (ws : List Number). i ≤ length ws) same l) at in
    subst (λ (ws : List Number). IsListOf (λ n. (n ≡ a.value) ⊎ InList numbers n) (values ws)) (sym is)
    (subst (λ (ms : List ℕ). IsListOf (λ n. (n ≡ a.value) ⊎ InList ms n) (values (insert us i a))) view here)

-- What holds is told beside a refusal, too.
pub on_err : {A E P : Type 0} (r : Result A E) → P → OnErr r P
on_err (Ok x) p = tt
on_err (Err e) p = p
