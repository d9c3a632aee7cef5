-- Tests in their order: what the first of them answer, and what those after them answer.
use Rattle.std.proofs.Common.{◌≡◌, List, [], ◌∷◌, ◌++◌, Option, Some, None, Result, Ok, Err, refl, sym, ap, ◌∙◌, subst}
use Rattle.std.specs.Prelude.{IsErr, IsErrAnd}
use Rattle.certs_x509.specs.declared.errors.verification.VerificationError.{VerificationError}
use Rattle.certs_verify.specs.certs_extension.declared.forms.VerificationTest.{VerificationTest}
use Rattle.certs_verify.specs.certs_extension.Calls.{Fault, inspected, verified, wants_memory}
use Rattle.certs_verify.specs.certs_basics.Lists.{Each, FirstFailing}
use Rattle.certs_verify.specs.Answers.{fault_of, Fails, Answers}

-- The tests before are passed.
pub fails_next : (P : VerificationTest → Type 0) (front ts : List VerificationTest) (t : VerificationTest) → Each P front → FirstFailing P ts t → FirstFailing P (front ++ ts) t
fails_next P [] ts t p f = f
fails_next P (x ∷ front) ts t p f =
    let g = fails_next P front ts t p.1 f in
    record { front = x ∷ g.front; behind = g.behind; whole = ap (λ (ys : List VerificationTest). x ∷ ys) g.whole; passed = (p.0, g.passed); fails = g.fails }

-- Later tests change nothing.
assoc : (a : List VerificationTest) (t : VerificationTest) (b c : List VerificationTest) → (a ++ t ∷ b) ++ c ≡ a ++ t ∷ (b ++ c)
assoc [] t b c = refl
assoc (x ∷ a) t b c = ap (λ (ys : List VerificationTest). x ∷ ys) (assoc a t b c)

pub fails_before : (P : VerificationTest → Type 0) (ts behind : List VerificationTest) (t : VerificationTest) → FirstFailing P ts t → FirstFailing P (ts ++ behind) t
fails_before P ts behind t f = record { front = f.front; behind = f.behind ++ behind; whole = ap (λ (ys : List VerificationTest). ys ++ behind) f.whole ∙ assoc f.front t f.behind behind; passed = f.passed; fails = f.fails }

-- A fault stays where tests that are passed come before it, or any tests after it.
pub fault_next : (P : VerificationTest → Type 0) (front ts : List VerificationTest) (o : Option Fault) → Each P front → Fails P ts o → Fails P (front ++ ts) o
fault_next P front ts None p f = absurd f
fault_next P front ts (Some (inspected t)) p f = absurd f
fault_next P front ts (Some (verified t)) p f = fails_next P front ts t p f
fault_next P front ts (Some wants_memory) p f = tt

pub fault_before : (P : VerificationTest → Type 0) (ts behind : List VerificationTest) (o : Option Fault) → Fails P ts o → Fails P (ts ++ behind) o
fault_before P ts behind None f = absurd f
fault_before P ts behind (Some (inspected t)) f = absurd f
fault_before P ts behind (Some (verified t)) f = fails_before P ts behind t f
fault_before P ts behind (Some wants_memory) f = tt

pub each_next : (P : VerificationTest → Type 0) (front ts : List VerificationTest) → Each P front → Each P ts → Each P (front ++ ts)
each_next P [] ts p q = q
each_next P (x ∷ front) ts p q = (p.0, each_next P front ts p.1 q)

-- An answer of the tests after those that are passed.
pub answers_next : {A : Type 0} (P : VerificationTest → Type 0) (front ts : List VerificationTest) (r : Result A VerificationError) → Each P front → Answers P ts r → Answers P (front ++ ts) r
answers_next P front ts (Ok x) p a = each_next P front ts p a
answers_next P front ts (Err e) p a = fault_next P front ts (fault_of e) p a

-- A test of the list is passed where all are.
pub each_front : (P : VerificationTest → Type 0) (front : List VerificationTest) (t : VerificationTest) (behind : List VerificationTest) → Each P (front ++ t ∷ behind) → Each P front × P t
each_front P [] t behind all = (tt, all.0)
each_front P (x ∷ front) t behind all = let rest = each_front P front t behind all.1 in ((all.0, rest.0), rest.1)

-- The tests ask the same of both.
abbrev pub Alike : (VerificationTest → Type 0) → (VerificationTest → Type 0) → VerificationTest → Type 0
Alike P Q t = (P t → Q t) × (Q t → P t)

pub each_alike : (P Q : VerificationTest → Type 0) (ts : List VerificationTest) → Each (Alike P Q) ts → Each P ts → Each Q ts
each_alike P Q [] same all = tt
each_alike P Q (t ∷ ts) same all = (same.0.0 all.0, each_alike P Q ts same.1 all.1)

pub fault_alike : (P Q : VerificationTest → Type 0) (ts : List VerificationTest) (o : Option Fault) → Each (Alike P Q) ts → Fails P ts o → Fails Q ts o
fault_alike P Q ts None same f = absurd f
fault_alike P Q ts (Some (inspected t)) same f = absurd f
fault_alike P Q ts (Some (verified t)) same f =
    let here = each_front (Alike P Q) f.front t f.behind (subst (Each (Alike P Q)) f.whole same) in
    record { front = f.front; behind = f.behind; whole = f.whole; passed = each_alike P Q f.front here.0 f.passed; fails = λ q. f.fails (here.1.1 q) }
fault_alike P Q ts (Some wants_memory) same f = tt

-- A call after tests that are passed was refused, and its error is handed on.
pub handed_on : {A : Type 0} (P : VerificationTest → Type 0) (front ts behind : List VerificationTest) (e : VerificationError) (r : Result A VerificationError)
    → IsErr r × IsErrAnd r (λ x. x ≡ e) → Each P front → Fails P ts (fault_of e) → Answers P (front ++ (ts ++ behind)) r
handed_on P front ts behind e (Ok x) a p f = absurd a.1
handed_on P front ts behind e (Err x) a p f =
    subst (λ (y : VerificationError). Fails P (front ++ (ts ++ behind)) (fault_of y)) (sym a.1) (fault_next P front (ts ++ behind) (fault_of e) p (fault_before P ts behind (fault_of e) f))
