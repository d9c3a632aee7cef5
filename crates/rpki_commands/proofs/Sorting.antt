-- Lists sorted by rows of octets.
use Rattle.std.proofs.Common.{◌≡◌, Bool, List, ℕ, ap}
use Rattle.std.proofs.lemmas.List.Sorted.{answers_always, ranks_by}
use Rattle.std.specs.Cmp.{IsStrictWeakOrder}
use Rattle.std.specs.Cmp.Lexicographic.{slice_cmp, nat_list_cmp_total}
use Rattle.std.specs.Fn.{Called, ComparesAs}
use Rattle.std.specs.List.Sorted.{IsSortedBy}
use Rattle.std.specs.Ordering.{nat_cmp, is_lt}
use Rattle.std.specs.declared.cmp.Ordering.{Ordering}
use Rattle.rpki_commands.specs.Folders.{IsSortedOn}
use denote.Param.Members.{Mut}
use denote.Ref.{Bor}

-- what a sort ensures, where each call of its closure compares the rows of the two elements
pub sorted_on : {X : Type 0} (row : X → List ℕ) {F : Type 0} {g : Mut F (Bor X × (Bor X × Unit {0})) Ordering} {f : F} (xs : List X)
    → ((lt : X → X → Bool) → IsStrictWeakOrder lt → ComparesAs g lt f → IsSortedBy lt xs)
    → ((f : F) (a : Bor X × (Bor X × Unit {0})) (r : Ordering) (f' : F) → Called g f a r f' → r ≡ slice_cmp nat_cmp (row a.0.now) (row a.1.0.now))
    → IsSortedOn row xs
sorted_on row {g = g} {f = f} xs up h =
    up (λ x y. is_lt (slice_cmp nat_cmp (row x) (row y))) (ranks_by nat_list_cmp_total row)
    (answers_always g (λ a r. is_lt r ≡ is_lt (slice_cmp nat_cmp (row a.0.now) (row a.1.0.now))) f (λ f a r q k. ap is_lt (h f a r q k)))
