-- Texts that are written piece by piece.
use Rattle.std.proofs.Common.{◌≡◌, ℕ, ◌+◌, ◌-◌, List, ◌++◌, length, take, drop, sym, ap, refl, ◌∙◌, append_assoc, take-append-drop, subst, Option, [], ◌≤◌, zero-le, arith}
use Rattle.std.specs.Prelude.{Result, Ok, Err, IsErr, IsErrAnd, IfErr}
use Rattle.std.proofs.lemmas.List.{take_rest, length-append}
use Rattle.std.specs.declared.io.Error.{Error}
use Rattle.std.specs.Io.{WritesAtMost}
use Rattle.std.specs.Io.KnownBytes.{Appends, WriteAppends}
use Rattle.std.proofs.KnownBytes.{Appends-nil, Appends-trans, Appends-kept}
use Rattle.bcder_primitive.specs.Writing.{Wrote, Took, TookFront}
use Rattle.bcder_primitive.specs.Encoded.{WritesBoth}

-- A front of the rest joins what was taken, and `&rest[count..]` is left.
pub takes_more : (text taken rest : List ℕ) (count : ℕ) → text ≡ taken ++ rest
    → text ≡ (taken ++ take count rest) ++ take (length rest - count) (drop count rest)
takes_more text taken rest count whole = rw (take_rest rest count, append_assoc, take-append-drop) whole

-- What a call of `write` took is a front of the octets that it was given, and is what came to the contents.
pub took_front : (old new : Option (List ℕ)) (rest : List ℕ) (answer : Result ℕ Error) (n : ℕ) → WritesAtMost answer rest
    → WriteAppends old new answer rest → Took answer n → (n ≤ length rest) × Appends old new (take n rest)
took_front old new rest (Ok count) n bound written t = (subst (λ k. k ≤ length rest) (sym t.0) bound, subst (λ k. Appends old new (take k rest)) (sym t.0) written)
took_front old new rest (Err e) n bound kept t =
    (subst (λ k. k ≤ length rest) (sym t.0) zero-le, subst (λ k. Appends old new (take k rest)) (sym t.0) (Appends-kept old old new [] (Appends-nil old) kept))

-- Why something was refused, `?` passes on.
pub stopped : {T E : Type 0} (Q : E → Type 0) (r : Result T E) (e : E) → IsErr r × IsErrAnd r (λ x. x ≡ e) → Q e → IfErr r Q
stopped Q (Ok x) e a q = absurd a.1
stopped Q (Err x) e a q = subst Q (sym a.1) q

-- What was written, and what was taken of it, is of P where it is of Q.
pub wrote_as : {P Q : List ℕ → Type 0} {old new : Option (List ℕ)} → ((text : List ℕ) → P text → Q text) → Wrote P old new → Wrote Q old new
wrote_as f w = record { text = w.text; is = f w.text w.is; appended = w.appended }

pub front_as : {P Q : List ℕ → Type 0} {old new : Option (List ℕ)} → ((text : List ℕ) → P text → Q text) → TookFront P old new → TookFront Q old new
front_as f w = record { text = w.text; is = f w.text w.is; taken = w.taken; others = w.others; whole = w.whole; some = w.some; appended = w.appended }

-- Two texts, one after the other.
pub wrote_both : {P Q : List ℕ → Type 0} {old mid new : Option (List ℕ)} → Wrote P old mid → Wrote Q mid new → Wrote (WritesBoth P Q) old new
wrote_both {P} {Q} {old} {mid} {new} a b = record {
  text = a.text ++ b.text;
  is = record { first = a.text; second = b.text; is_first = a.is; is_second = b.is; whole = refl };
  appended = Appends-trans old mid new a.text b.text a.appended b.appended;
}

pub front_first : {P Q : List ℕ → Type 0} {old new : Option (List ℕ)} (b : List ℕ) → Q b → TookFront P old new → TookFront (WritesBoth P Q) old new
front_first b is a = record {
  text = a.text ++ b;
  is = record { first = a.text; second = b; is_first = a.is; is_second = is; whole = refl };
  taken = a.taken;
  others = a.others ++ b;
  whole = ap (λ l. l ++ b) a.whole ∙ append_assoc a.taken a.others b;
  some = omega (arith, a.some, length-append a.others b);
  appended = a.appended;
}

pub front_second : {P Q : List ℕ → Type 0} {old mid new : Option (List ℕ)} → Wrote P old mid → TookFront Q mid new → TookFront (WritesBoth P Q) old new
front_second {P} {Q} {old} {mid} {new} a b = record {
  text = a.text ++ b.text;
  is = record { first = a.text; second = b.text; is_first = a.is; is_second = b.is; whole = refl };
  taken = a.text ++ b.taken;
  others = b.others;
  some = b.some;
  whole = ap (λ l. a.text ++ l) b.whole ∙ sym (append_assoc a.text b.taken b.others);
  appended = Appends-trans old mid new a.text b.taken a.appended b.appended;
}

-- All of a text was written.
pub wrote_that : {P : List ℕ → Type 0} {old new : Option (List ℕ)} (text : List ℕ) → P text → Appends old new text → Wrote P old new
wrote_that text is a = record { text = text; is = is; appended = a }

-- A refusal with that error, and what follows from what was known with it.
pub refused_as : {T E P Q : Type 0} (r : Result T E) (x : E) → (P → Q) → IfErr r (λ e. (e ≡ x) × P) → IfErr r (λ e. (e ≡ x) × Q)
refused_as (Ok y) x f h = tt
refused_as (Err e) x f h = (h.0, f h.1)
