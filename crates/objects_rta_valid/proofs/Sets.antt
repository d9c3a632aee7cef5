-- Sets of identifiers, and lists in which none occurs twice.
use Rattle.std.proofs.Common.{◌≡◌, ◌≢◌, ℕ, ◌+◌, ◌<◌, ◌||◌, Bool, true, false, cond, IsTrue, Bor, List, [], ◌∷◌, ◌++◌, length, get_or, take, All, Any, Contains, bytes_eq, refl, sym, ap, subst, ◌∙◌, arith}
use Rattle.std.specs.BTreeSet.{BTreeSet, UpdatesBy}
use Rattle.std.specs.Cmp.Lexicographic.{slice_cmp}
use Rattle.std.specs.List.{list_any}
use Rattle.std.specs.Ordering.{nat_cmp}
use Rattle.std.proofs.lemmas.Bool.{both_ways}
use Rattle.std.proofs.lemmas.List.{get_or-take, get_or_default, length-map, length-take-le, take_more}
use Rattle.std.proofs.lemmas.List.Elements.{All-contains, All-contains_itself, All-weaker}
use Rattle.std.proofs.lemmas.List.Folds.{Any-from_list_any, list_any-append, list_any_at}
use Rattle.std.proofs.lemmas.List.Quantifiers.{all_pairs_push}
use Rattle.std.proofs.lemmas.Map.Text.{is_eq-slice_cmp}
use Rattle.std.proofs.lemmas.Slice.Eq.{bytes_eq-Decides}
use Rattle.std.proofs.Math.ListN.{get_or-map}
use Rattle.objects_rta_valid.specs.Keys.{AreSame, IsOnceEach}
use Rattle.objects_rta_valid.specs.Nodes.{each_octets}
use Rattle.objects_rta_valid.specs.Tables.{IsSetOf, holds}

-- The test tells members, both ways.
pub key_from : (keys : List (List ℕ)) (key : List ℕ) → Contains keys key → list_any (bytes_eq key) keys ≡ true
key_from keys key c = list_any_at (bytes_eq key) keys c.0 key c.1 ((bytes_eq-Decides key (get_or keys c.0 key)).1 (sym c.2))

pub key_to : (keys : List (List ℕ)) (key : List ℕ) → list_any (bytes_eq key) keys ≡ true → Contains keys key
key_to keys key e =
    let a : Any (λ k. bytes_eq key k ≡ true) keys = Any-from_list_any (bytes_eq key) keys e in
    let same : a.1 ≡ key = sym ((bytes_eq-Decides key a.1).0 a.4) in
    (a.0, a.2, subst (λ (k : List ℕ). get_or keys a.0 k ≡ k) same a.3)

other_way : (a b : List ℕ) → bytes_eq a b ≡ bytes_eq b a
other_way a b = go (bytes_eq a b) (bytes_eq b a) refl refl
  where
    go : (s t : Bool) → bytes_eq a b ≡ s → bytes_eq b a ≡ t → s ≡ t
    go true true e f = refl
    go false false e f = refl
    go true false e f = absurd (both_ways (bytes_eq b a) f ((bytes_eq-Decides b a).1 (sym ((bytes_eq-Decides a b).0 e))))
    go false true e f = absurd (both_ways (bytes_eq a b) e ((bytes_eq-Decides a b).1 (sym ((bytes_eq-Decides b a).0 f))))

cond_or : (a b : Bool) → cond a true b ≡ (b || (a || false))
cond_or true true = refl
cond_or true false = refl
cond_or false true = refl
cond_or false false = refl

-- A set with one more.
pub holds_next : (old new : BTreeSet (Bor (List ℕ))) (key : List ℕ) → UpdatesBy (λ x y. slice_cmp nat_cmp x.now y.now) (λ k. slice_cmp nat_cmp key k.now) old new true → (q : List ℕ) → holds new q ≡ cond (bytes_eq key q) true (holds old q)
holds_next old new key u q =
    let at : Bor (List ℕ) = record { ref_ptr = (0, 0); now = q } in
    u.0 at ∙ ap (λ (b : Bool). cond b true (holds old q)) (is_eq-slice_cmp key q)

pub set_next : (keys : List (List ℕ)) (key : List ℕ) (old new : BTreeSet (Bor (List ℕ))) → holds old key ≡ false → UpdatesBy (λ x y. slice_cmp nat_cmp x.now y.now) (λ k. slice_cmp nat_cmp key k.now) old new true → IsSetOf keys old → IsSetOf (keys ++ key ∷ []) new
set_next keys key old new none u is = record { once = all_pairs_push (λ (a b : List ℕ). a ≢ b) keys key is.once apart; same = same }
  where
    apart : (k : ℕ) (d : List ℕ) → k < length keys → get_or keys k d ≢ key
    apart k d l e =
        both_ways (holds old key) none (is.same key ∙ key_from keys key (k, l, get_or_default keys k key d l ∙ e))

    same : (q : List ℕ) → holds new q ≡ list_any (bytes_eq q) (keys ++ key ∷ [])
    same q =
        holds_next old new key u q
        ∙ (ap (λ (b : Bool). cond (bytes_eq key q) true b) (is.same q)
        ∙ (cond_or (bytes_eq key q) (list_any (bytes_eq q) keys)
        ∙ (ap (λ (b : Bool). list_any (bytes_eq q) keys || (b || false)) (other_way key q)
        ∙ sym (list_any-append (bytes_eq q) keys (key ∷ [])))))

-- One that the first already have occurs twice.
pub set_full : (all : List (List ℕ)) (i : ℕ) (d : List ℕ) (set : BTreeSet (Bor (List ℕ))) → i < length all → IsSetOf (take i all) set → holds set (get_or all i d) ≡ true → IsOnceEach all → ⊥
set_full all i d set l is full once =
    let key = get_or all i d in
    let c : Contains (take i all) key = key_to (take i all) key (sym (is.same key) ∙ full) in
    let size = length-take-le i all (omega arith) in
    let k : c.0 < i = (let m : c.0 < length (take i all) = c.1 in omega arith) in
    let here : get_or all c.0 d ≡ key = get_or_default all c.0 d key (omega arith) ∙ (sym (get_or-take i all c.0 key k) ∙ c.2) in
    once c.0 i d k l here

module _ (signers keys : List (List ℕ)) (s k : BTreeSet (Bor (List ℕ))) (of_s : IsSetOf signers s) (of_k : IsSetOf keys k) where
  pub same_from : All (λ key. IsTrue (holds s key)) keys → All (λ key. IsTrue (holds k key)) signers → AreSame signers keys
  same_from a b =
      record {
        signers_once = of_s.once;
        keys_once = of_k.once;
        same = λ key. (
          λ c. key_to keys key (sym (of_k.same key) ∙ All-contains (λ (x : List ℕ). IsTrue (holds k x)) signers key b c),
          λ c. key_to signers key (sym (of_s.same key) ∙ All-contains (λ (x : List ℕ). IsTrue (holds s x)) keys key a c),
        );
      }

  pub same_in_signers : AreSame signers keys → All (λ key. IsTrue (holds s key)) keys
  same_in_signers h =
      All-weaker (λ (x : List ℕ). Contains keys x) (λ (x : List ℕ). IsTrue (holds s x)) (λ x c. of_s.same x ∙ key_from signers x ((h.same x).1 c)) keys (All-contains_itself keys)

  pub same_in_keys : AreSame signers keys → All (λ key. IsTrue (holds k key)) signers
  same_in_keys h =
      All-weaker (λ (x : List ℕ). Contains signers x) (λ (x : List ℕ). IsTrue (holds k x)) (λ x c. of_k.same x ∙ key_from keys x ((h.same x).0 c)) signers (All-contains_itself signers)

-- Identifiers that are lent, one by one.
abbrev pub lent_none : Bor (List ℕ)
lent_none = record { ref_ptr = (0, 0); now = [] }

pub each_at : (keys : List (Bor (List ℕ))) (i : ℕ) → get_or (each_octets keys) i [] ≡ (get_or keys i lent_none).now
each_at keys i = get_or-map (λ (o : Bor (List ℕ)). o.now) keys i lent_none

pub each_length : (keys : List (Bor (List ℕ))) → length (each_octets keys) ≡ length keys
each_length keys = length-map keys (λ (o : Bor (List ℕ)). o.now)

-- One more of a list.
pub each_more : (keys : List (Bor (List ℕ))) (i : ℕ) → i < length keys → take (i + 1) (each_octets keys) ≡ take i (each_octets keys) ++ (get_or keys i lent_none).now ∷ []
each_more keys i l =
    let size = each_length keys in
    take_more (each_octets keys) i [] (omega arith) ∙ ap (λ (k : List ℕ). take i (each_octets keys) ++ k ∷ []) (each_at keys i)
