-- Objects and locators that ascend.
use Rattle.std.proofs.Common.{◌≡◌, ℕ, zero, suc, ◌<◌, inl, inr, Bool, true, false, List, [], ◌∷◌, length, get_or, map, Option, Some, None, bytes_eq, if◌then◌else◌, refl, sym, ap, ◌∙◌, subst, arith}
use Rattle.std.proofs.lemmas.Cmp.{tied_itself}
use Rattle.std.proofs.lemmas.List.{length-map}
use Rattle.std.proofs.lemmas.Map.Keys.{Less-from_sorted, sorted_tail}
use Rattle.std.proofs.lemmas.Slice.Eq.{bytes_eq-Decides}
use Rattle.std.specs.List.Sorted.{IsStrictlySortedBy}
use Rattle.std.specs.Prelude.{IfNone}
use Rattle.std.specs.declared.cmp.Ordering.TheVariants.{Less, Equal}
use Rattle.std.specs.Ordering.{nat_cmp}
use Rattle.std.specs.Cmp.Lexicographic.{slice_cmp, nat_list_cmp_total}
use Rattle.rpki_standing.specs.rpki_bundle.Orders.{Ascends}
use Rattle.rpki_standing.specs.rpki_bundle.declared.parts.Object.{Object}
use Rattle.rpki_rules.specs.Words.{Mem, NoRepeat}
use Rattle.rpki_rules.specs.World.{find_object}
use Rattle.rpki_standing.specs.Places.{IsPlace}

abbrev uri_of : Object → List ℕ
uri_of o = o.uri

-- A row isn't before itself.
not_before : (a b : List ℕ) → slice_cmp nat_cmp a b ≡ Less → a ≡ b → ⊥
not_before a b less same =
    let equal : slice_cmp nat_cmp a b ≡ Equal = ap (slice_cmp nat_cmp a) (sym same) ∙ tied_itself nat_list_cmp_total a in
    let wrong : Less ≡ Equal = sym less ∙ equal in absurd cc

-- The first object with a URI, by whether the first has it.
first_has : (o : Object) (os : List Object) (key octets : List ℕ) → o.uri ≡ key → o.octets ≡ octets → find_object (o ∷ os) key ≡ Some octets
first_has o os key octets e f = at (bytes_eq o.uri key) ((bytes_eq-Decides o.uri key).1 e)
  where
    at : (b : Bool) → b ≡ true → (if b then Some o.octets else find_object os key) ≡ Some octets
    at true t = ap Some f
    at false t = absurd cc

first_lacks : (o : Object) (os : List Object) (key : List ℕ) (r : Option (List ℕ)) → (o.uri ≡ key → ⊥) → find_object os key ≡ r → find_object (o ∷ os) key ≡ r
first_lacks o os key r n e = at (bytes_eq o.uri key) refl
  where
    at : (b : Bool) → bytes_eq o.uri key ≡ b → (if b then Some o.octets else find_object os key) ≡ r
    at true t = absurd (n ((bytes_eq-Decides o.uri key).0 t))
    at false t = e

-- The object at the place of a key is the first with it,
place_found : (os : List Object) (key : List ℕ) (k : ℕ) (o : Object) → Ascends (λ (x : Object). x.uri) os → IsPlace (λ (x : Object). x.uri) os key k → o ≡ get_or os k o → find_object os key ≡ Some o.octets
place_found [] key k o a p e = absurd (let l : k < 0 = p.inside in omega arith)
place_found (x ∷ xs) key zero o a p e = first_has x xs key o.octets p.same (ap (λ (z : Object). z.octets) (sym e))
place_found (x ∷ xs) key (suc k) o a p e =
    let l : suc k < length (x ∷ xs) = p.inside in
    let less = Less-from_sorted (slice_cmp nat_cmp) (map uri_of (x ∷ xs)) 0 (suc k) key a (omega arith) (omega (arith, l, length-map (x ∷ xs) uri_of)) in
    let before : slice_cmp nat_cmp x.uri key ≡ Less = ap (slice_cmp nat_cmp x.uri) (sym p.same) ∙ less in
    first_lacks x xs key (Some o.octets) (not_before x.uri key before) (place_found xs key k o (sorted_tail (slice_cmp nat_cmp) x.uri (map uri_of xs) a) (record { inside = omega arith; same = p.same }) e)

-- and without a place there is none.
none_found : (os : List Object) (key : List ℕ) → ((k : ℕ) → IsPlace (λ (x : Object). x.uri) os key k → ⊥) → find_object os key ≡ None
none_found [] key h = refl
none_found (x ∷ xs) key h =
    first_lacks x xs key None (λ e. h 0 (record { inside = omega arith; same = e }))
    (none_found xs key (λ k p. h (suc k) (record { inside = let l : k < length xs = p.inside in omega arith; same = p.same })))

-- An object at its place, and none without one, in a list by another name.
pub place_told : (os ps : List Object) (key : List ℕ) (k : ℕ) (o : Object) → os ≡ ps → Ascends (λ (x : Object). x.uri) ps → IsPlace (λ (x : Object). x.uri) os key k → o ≡ get_or os k o → find_object ps key ≡ Some o.octets
place_told os ps key k o e a p at = place_found ps key k o a (subst (λ (xs : List Object). IsPlace (λ (x : Object). x.uri) xs key k) e p) (at ∙ ap (λ (xs : List Object). get_or xs k o) e)

pub none_told : {A : Type 0} (os ps : List Object) (key : List ℕ) (r : Option A) → os ≡ ps → ((k : ℕ) → IsPlace (λ (x : Object). x.uri) os key k → ⊥) → IfNone r (find_object ps key ≡ None)
none_told os ps key (Some x) e h = tt
none_told os ps key None e h = none_found ps key (subst (λ (xs : List Object). (k : ℕ) → IsPlace (λ (x : Object). x.uri) xs key k → ⊥) e h)

-- The place of what is in a list.
mem_at : (rows : List (List ℕ)) (x : List ℕ) → Mem rows x → (k : ℕ) × (k < length rows) × ((d : List ℕ) → get_or rows k d ≡ x)
mem_at [] x m = absurd m
mem_at (y ∷ ys) x (inl e) = (0, omega arith, λ d. e)
mem_at (y ∷ ys) x (inr m) = let r = mem_at ys x m in (suc r.0, omega (arith, r.1), r.2)

-- What ascends has nothing twice.
pub ascends_once : (rows : List (List ℕ)) → IsStrictlySortedBy (slice_cmp nat_cmp) rows → NoRepeat rows
ascends_once [] a = tt
ascends_once (x ∷ xs) a = (
  λ m.
      let p = mem_at xs x m in
      let less = Less-from_sorted (slice_cmp nat_cmp) (x ∷ xs) 0 (suc p.0) x a (omega arith) (omega (arith, p.1)) in
      not_before x (get_or xs p.0 x) less (sym (p.2 x)),
  ascends_once xs (sorted_tail (slice_cmp nat_cmp) x xs a),
)
