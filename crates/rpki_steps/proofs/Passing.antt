-- What a test, or a call that may lack memory, says of one thing it says of another.
use Rattle.std.proofs.Common.{◌≡◌, ◌↔◌, ◌∙◌, Bool, List, true, false, Result, Ok, Err, sym}
use Rattle.std.specs.Prelude.{IfOk, IsTrue, is_ok}
use Rattle.certs_verify.specs.TestAnswers.{Answers}
use Rattle.rpki_steps.specs.certs_basics.Lists.{Each}
use Rattle.rpki_rules.proofs.Firsts.{none_fails}

-- No, where yes would mean a test that failed.
pub refuses : {A B : Type 0} (b : Bool) → b ≡ false → (IsTrue b ↔ A) → (B → A) → IsTrue false ↔ B
refuses b n h f = (λ t. let e : false ≡ true = t in absurd cc, λ x. let y : b ≡ true = h.1 (f x) in absurd cc)

pub never : {B : Type 0} → (B → ⊥) → IsTrue false ↔ B
never f = (λ t. let e : false ≡ true = t in absurd cc, λ x. absurd (f x))

pub if_ok : {A E : Type 0} (P Q : A → Type 0) (r : Result A E) → ((x : A) → P x → Q x) → IfOk r P → IfOk r Q
if_ok P Q (Ok x) f h = f x h
if_ok P Q (Err e) f h = h

-- All tests are passed exactly where their answer is `Ok`.
pub told_ok : {X : Type 0} (P : X → Type 0) (ts : List X) (r : Result (Unit {0}) X) (b : Bool) → b ≡ is_ok r → Answers P ts r → IsTrue b ↔ Each P ts
told_ok P ts (Ok x) b is all = (λ t. all, λ e. is)
told_ok {X} P ts (Err x) b is f = (
  λ t. let wrong : true ≡ is_ok {T = Unit {0}} (Err x) = sym t ∙ is in absurd cc,
  λ all. absurd (none_fails P ts x all f),
)
