-- Values one after the other: their texts, and why they aren't written.
use Rattle.std.proofs.Common.{◌≡◌, ℕ, ◌+◌, ◌^◌, ◌<◌, ◌≤◌, List, ◌++◌, length, refl, sym, ap, ◌∙◌, subst, Option, arith}
use Rattle.std.proofs.lemmas.List.{length-append}
use Rattle.bcder_primitive.specs.bcder_tree.declared.mode.Mode.{Mode}
use Rattle.bcder_primitive.specs.bcder_tree.Tree.{Trees}
use Rattle.bcder_primitive.specs.declared.written.error.EncodeError.{EncodeError}
use Rattle.bcder_primitive.specs.declared.written.error.EncodeError.TheVariants as errors
use Rattle.bcder_primitive.specs.Writing.{HasLength, TookFront, WriteRefused}
use Rattle.bcder_primitive.specs.Encoded.{WritesBoth, SpellsSome}
use Rattle.bcder_primitive.specs.Contents.{ContentRefused}

pub both_length : {P Q : List ℕ → Type 0} (text : List ℕ) (w : WritesBoth P Q text) → length text ≡ length w.first + length w.second
both_length text w = ap length w.whole ∙ length-append w.first w.second

-- How many octets both have.
pub has_both : {P Q : List ℕ → Type 0} {a b : ℕ} → HasLength P a → HasLength Q b → HasLength (WritesBoth P Q) (a + b)
has_both {P} {Q} {a} {b} x y = record {
  text = x.text ++ y.text;
  is = record { first = x.text; second = y.text; is_first = x.is; is_second = y.is; whole = refl };
  long = length-append x.text y.text ∙ ap (λ k. k + length y.text) x.long ∙ ap (λ k. a + k) y.long;
}

-- Both can't be counted where their sum can't.
pub too_many : {P Q : List ℕ → Type 0} {a b : ℕ} → ((x y : List ℕ) → P x → P y → x ≡ y) → ((x y : List ℕ) → Q x → Q y → x ≡ y)
    → HasLength P a → HasLength Q b → 2 ^ 64 ≤ a + b → (text : List ℕ) → WritesBoth P Q text → length text < 2 ^ 64 → ⊥
too_many one other x y many text w few =
    let long = both_length text w in
    let first : length w.first ≡ length x.text = ap length (one _ _ w.is_first x.is) in
    let second : length w.second ≡ length y.text = ap length (other _ _ w.is_second y.is) in
    let p = x.long in
    let q = y.long in
    omega arith

-- Nothing that has a text is refused for its form or length.
pub written_refused : (m : Mode) (U : Trees → Type 0) (Q : List ℕ → Type 0) (n : ℕ) (other : Type 0) (mid new : Option (List ℕ)) (e : EncodeError)
    → ((text : List ℕ) → Q text → SpellsSome m U text) → HasLength Q n → n < 2 ^ 64 → WriteRefused U Q other mid new e → (e ≡ errors.Write) × TookFront Q mid new
written_refused m U Q n other mid new errors.CerUnsupported spelled w few h = let s = spelled w.text w.is in absurd (h.0 s.trees s.is)
written_refused m U Q n other mid new errors.TooLong spelled w few h =
    let p = w.long in
    absurd (h.0 w.text w.is (omega arith))
written_refused m U Q n other mid new errors.Write spelled w few h = (refl, h)
written_refused m U Q n other mid new errors.Memory spelled w few h = absurd h

-- The first and the second of two that have a text.
pub first_length : {P Q : List ℕ → Type 0} {n : ℕ} → n < 2 ^ 64 → (w : HasLength (WritesBoth P Q) n) → (k : ℕ) × HasLength P k × (k < 2 ^ 64)
first_length few w =
    let long = both_length w.text w.is in
    let p = w.long in
    (length w.is.first, record { text = w.is.first; is = w.is.is_first; long = refl }, omega arith)

pub second_length : {P Q : List ℕ → Type 0} {n : ℕ} → n < 2 ^ 64 → (w : HasLength (WritesBoth P Q) n) → (k : ℕ) × HasLength Q k × (k < 2 ^ 64)
second_length few w =
    let long = both_length w.text w.is in
    let p = w.long in
    (length w.is.second, record { text = w.is.second; is = w.is.is_second; long = refl }, omega arith)

-- A refusal of the writer.
pub writer_refused : (T : Trees → Type 0) (P : List ℕ → Type 0) (same : Type 0) (old new : Option (List ℕ)) (e : EncodeError) → e ≡ errors.Write → TookFront P old new → WriteRefused T P same old new e
writer_refused T P same old new e is h = subst (WriteRefused T P same old new) (sym is) h

-- No content octets that are there are refused for their form or length.
pub content_refused : (m : Mode) (P : List ℕ → Type 0) (n : ℕ) (other : Type 0) (mid new : Option (List ℕ)) (e : EncodeError)
    → HasLength P n → n < 2 ^ 32 → ContentRefused m P other mid new e → (e ≡ errors.Write) × TookFront P mid new
content_refused m P n other mid new errors.CerUnsupported w few h = absurd (h.0.1 w.text w.is)
content_refused m P n other mid new errors.TooLong w few h =
    let p = w.long in
    absurd (h.0 w.text w.is (omega arith))
content_refused m P n other mid new errors.Write w few h = (refl, h)
content_refused m P n other mid new errors.Memory w few h = absurd h
