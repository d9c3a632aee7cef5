use Rattle.std.proofs.Common.{◌≡◌, ℕ, Bool, true, false, List, Some, Option, Result, Ok, Vec, String, map, string_bytes, subst, sym, arith}
use Rattle.std.specs.Global.{Global}
use Rattle.std.specs.declared.io.Error.{Error}
use Rattle.rpki_validator.specs.Counts.{Counts}
use Rattle.rpki_questions.specs.Asking.{Answers}
use Rattle.rpki_questions.specs.Requests.{Requests, asked_of}
use Rattle.rpki_questions.specs.Programs.{AnswersAsked, RequestedBy}
use Rattle.rpki_questions.specs.declared.requests.Request.{Request}
use Rattle.rpki_questions.proofs.programs.ask_program.Goals as goal

requested : (arguments : Result (Vec (String Global) Global) Error) (words : Vec (String Global) Global) (listed : List (String Global)) (request : Option Request) → arguments ≡ Ok words → listed ≡ words.items → Requests (map string_bytes listed) request → RequestedBy arguments request
requested arguments words listed request is same asks =
    subst (λ (r : Result (Vec (String Global) Global) Error). RequestedBy r request) (sym is) (subst (λ (l : List (String Global)). Requests (map string_bytes l) request) same asks)

-- What was answered is what the arguments ask, where no call failed.
answered : (arguments : Result (Vec (String Global) Global) Error) (request : Request) (is_yes : Bool) (r r' w w' : Option (List ℕ)) (reads writes : Counts) → RequestedBy arguments (Some request)
    → Answers request.json (asked_of request.question) is_yes r r' w w' → (reads.after ≡ reads.before) × (writes.after ≡ writes.before) → AnswersAsked arguments is_yes r r' w w' reads writes
answered arguments request is_yes r r' w w' reads writes asked answers counts = record { request = Some request; asked = asked; answered = (answers, counts.0, counts.1) }

pub returns-clause-yes : goal.returns-clause-yes
returns-clause-yes g c = λ e.
    answered _ c.in-Some.request true _ _ _ _ _ _ (requested _ c.in-Ok.words _ _ c.in-Ok.is c.as_slice.ensures.value c.in-Some.ensures) (c.ask.ensures.yes e) (c.ask.ensures.answered_counts (omega (arith, e)))

pub returns-clause-no : goal.returns-clause-no
returns-clause-no g c = λ e.
    answered _ c.in-Some.request false _ _ _ _ _ _ (requested _ c.in-Ok.words _ _ c.in-Ok.is c.as_slice.ensures.value c.in-Some.ensures) (c.ask.ensures.no e) (c.ask.ensures.answered_counts (omega (arith, e)))

pub returns-clause-failed : goal.returns-clause-failed
returns-clause-failed g c = λ e. record {
  request = Some c.in-Some.request;
  asked = requested _ c.in-Ok.words _ _ c.in-Ok.is c.as_slice.ensures.value c.in-Some.ensures;
  left = c.ask.ensures.failed e;
}
