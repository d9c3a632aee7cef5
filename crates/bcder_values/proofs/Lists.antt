-- Lists of values, of which a front was written.
use Rattle.std.proofs.Common.{◌≡◌, ℕ, ◌^◌, ◌<◌, ◌≤◌, ◌+◌, List, [], ◌∷◌, ◌++◌, length, refl, sym, ap, ◌∙◌, append_assoc, append-nil, subst, arith}
use Rattle.std.specs.Prelude.{Option}
use Rattle.bcder_values.specs.bcder_tree.Tree.{Trees}
use Rattle.bcder_values.specs.bcder_primitive.declared.written.error.EncodeError.{EncodeError}
use Rattle.bcder_values.specs.bcder_primitive.declared.written.error.EncodeError.TheVariants as errors
use Rattle.bcder_values.specs.bcder_primitive.Encoded.{WritesBoth}
use Rattle.bcder_values.specs.Choices.{nothing_one}
use Rattle.bcder_values.specs.Laws.{both_one}
use Rattle.bcder_values.specs.Lists.{AreAll, WritesAll}
use Rattle.bcder_values.specs.bcder_primitive.Writing.{HasLength, Wrote, CannotWrite}
use Rattle.bcder_values.proofs.of_bcder_primitive.Compose.{has_both, too_many, both_length}
use Rattle.bcder_values.proofs.of_bcder_primitive.Pieces.{wrote_as, wrote_both}
use Rattle.bcder_values.proofs.Wrapping.{has_as}

-- A list is written as its front, and then what follows.
pub all_split : {V : Type 0} (P : V → List ℕ → Type 0) (xs ys : List V) (text : List ℕ) → WritesAll P (xs ++ ys) text → WritesBoth (WritesAll P xs) (WritesAll P ys) text
all_split P [] ys text w = record { first = []; second = text; is_first = refl; is_second = w; whole = refl }
all_split P (x ∷ xs) ys text w =
    let s = all_split P xs ys w.second w.is_second in
    record {
      first = w.first ++ s.first;
      second = s.second;
      is_first = record { first = w.first; second = s.first; is_first = w.is_first; is_second = s.is_first; whole = refl };
      is_second = s.is_second;
      whole = w.whole ∙ ap (λ l. w.first ++ l) s.whole ∙ sym (append_assoc w.first s.first s.second);
    }

pub all_joined : {V : Type 0} (P : V → List ℕ → Type 0) (xs ys : List V) (text : List ℕ) → WritesBoth (WritesAll P xs) (WritesAll P ys) text → WritesAll P (xs ++ ys) text
all_joined P [] ys text w = subst (WritesAll P ys) (sym (w.whole ∙ ap (λ l. l ++ w.second) w.is_first)) w.is_second
all_joined P (x ∷ xs) ys text w =
    let a = w.is_first in
    record {
      first = a.first;
      second = a.second ++ w.second;
      is_first = a.is_first;
      is_second = all_joined P xs ys (a.second ++ w.second) (record { first = a.second; second = w.second; is_first = a.is_second; is_second = w.is_second; whole = refl });
      whole = w.whole ∙ ap (λ l. l ++ w.second) a.whole ∙ append_assoc a.first a.second w.second;
    }

-- One value is a list of it.
pub one_of_all : {V : Type 0} (P : V → List ℕ → Type 0) (x : V) (text : List ℕ) → P x text → WritesAll P (x ∷ []) text
one_of_all P x text is = record { first = text; second = []; is_first = is; is_second = refl; whole = sym (append-nil text) }

pub has_one_more : {V : Type 0} (P : V → List ℕ → Type 0) {a b : ℕ} (xs : List V) (x : V) → HasLength (WritesAll P xs) a → HasLength (P x) b → HasLength (WritesAll P (xs ++ (x ∷ []))) (a + b)
has_one_more P xs x h k = has_as (all_joined P xs (x ∷ [])) (has_both h (has_as (one_of_all P x) k))

pub wrote_one_more : {V : Type 0} (P : V → List ℕ → Type 0) {old mid new : Option (List ℕ)} (xs : List V) (x : V) → Wrote (WritesAll P xs) old mid → Wrote (P x) mid new → Wrote (WritesAll P (xs ++ (x ∷ []))) old new
wrote_one_more P xs x h k = wrote_as (all_joined P xs (x ∷ [])) (wrote_both h (wrote_as (one_of_all P x) k))

-- The trees of one of them.
tree_among : {V : Type 0} (T : V → Trees → Type 0) (xs : List V) (x : V) (ys : List V) (ts : Trees) → AreAll T (xs ++ (x ∷ ys)) ts → (us : Trees) × T x us
tree_among T [] x ys ts a = (a.first, a.is_first)
tree_among T (y ∷ xs) x ys ts a = tree_among T xs x ys a.second a.is_second

-- All can't be written where one of them can't.
pub one_cannot : {V : Type 0} (T : V → Trees → Type 0) (P : V → List ℕ → Type 0) (xs : List V) (x : V) (ys : List V) (e : EncodeError) → CannotWrite (T x) (P x) e → CannotWrite (AreAll T (xs ++ (x ∷ ys))) (WritesAll P (xs ++ (x ∷ ys))) e
one_cannot T P xs x ys errors.CerUnsupported h = λ ts a. let t = tree_among T xs x ys ts a in h t.0 t.1
one_cannot T P xs x ys errors.TooLong h = λ text w few.
    let s = all_split P xs (x ∷ ys) text w in
    let outer = both_length text s in
    let inner = both_length s.second s.is_second in
    h s.is_second.first s.is_second.is_first (omega arith)
one_cannot T P xs x ys errors.Write h = h
one_cannot T P xs x ys errors.Memory h = h

-- What is written of one more is always the same, too.
pub one_more : {V : Type 0} (P : V → List ℕ → Type 0) (xs : List V) (x : V) → ((a b : List ℕ) → WritesAll P xs a → WritesAll P xs b → a ≡ b) → ((a b : List ℕ) → P x a → P x b → a ≡ b)
    → (a b : List ℕ) → WritesAll P (xs ++ (x ∷ [])) a → WritesAll P (xs ++ (x ∷ [])) b → a ≡ b
one_more P xs x front one a b v w = both_one front (both_one one nothing_one) a b (all_split P xs (x ∷ []) a v) (all_split P xs (x ∷ []) b w)

-- All can't be written where a front of them can't be counted.
pub front_too_many : {V : Type 0} (P : V → List ℕ → Type 0) {a b : ℕ} (xs : List V) (x : V) (ys : List V) → ((a b : List ℕ) → WritesAll P xs a → WritesAll P xs b → a ≡ b) → ((a b : List ℕ) → P x a → P x b → a ≡ b)
    → HasLength (WritesAll P xs) a → HasLength (P x) b → 2 ^ 64 ≤ a + b → (text : List ℕ) → WritesAll P (xs ++ (x ∷ ys)) text → length text < 2 ^ 64 → ⊥
front_too_many P xs x ys fronts one h k many text w few =
    let s = all_split P xs (x ∷ ys) text w in
    let outer = both_length text s in
    let inner = both_length s.second s.is_second in
    let front : WritesBoth (WritesAll P xs) (P x) (s.first ++ s.is_second.first) = record { first = s.first; second = s.is_second.first; is_first = s.is_first; is_second = s.is_second.is_first; whole = refl } in
    let long = both_length _ front in
    too_many fronts one h k many _ front (omega arith)
