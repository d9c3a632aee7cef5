-- What the program `rpki_ask` does, by its arguments, and when it ends with which status.
use Rattle.std.specs.Prelude.{◌≡◌, ℕ, Bool, List, Option, Some, None, Result, Ok, Err, Vec, String, map, string_bytes}
use Rattle.std.specs.Global.{Global}
use Rattle.std.specs.declared.io.Error.{Error}
use Rattle.rpki_validator.specs.Counts.{Counts, IsLeft}
use Rattle.rpki_questions.specs.Asking.{Answers, EndsInFault}
use Rattle.rpki_questions.specs.Requests.{Requests, asked_of}
use Rattle.rpki_questions.specs.declared.requests.Request.{Request}

-- The request that the words make; where they can't be had, there is none.
abbrev pub RequestedBy : Result (Vec (String Global) Global) Error → Option Request → Type 0
RequestedBy (Ok words) request = Requests (map string_bytes words.items) request
RequestedBy (Err error) request = request ≡ None

-- Status 0, a yes, or 1, a no: the answer to the request was written.
abbrev pub Answered : Option Request → Bool → Option (List ℕ) → Option (List ℕ)
    → Option (List ℕ) → Option (List ℕ) → Counts → Counts → Type 0
Answered None is_yes r r' w w' reads writes = ⊥
Answered (Some request) is_yes r r' w w' reads writes =
    Answers request.json (asked_of request.question) is_yes r r' w w'
    × (reads.after ≡ reads.before) × (writes.after ≡ writes.before)

-- Status 2: something was at fault, or nothing is asked, and then nothing is done.
abbrev pub Unanswered : Option Request → Option (List ℕ) → Option (List ℕ) → Option (List ℕ)
    → Option (List ℕ) → Counts → Counts → Type 0
Unanswered None r r' w w' reads writes = IsLeft r r' reads × IsLeft w w' writes
Unanswered (Some request) r r' w w' reads writes =
    EndsInFault request.json (asked_of request.question) r r' w w' reads writes

-- What was answered is what the arguments ask,
pub record AnswersAsked (arguments : Result (Vec (String Global) Global) Error) (yes : Bool)
    (r r' w w' : Option (List ℕ)) (reads writes : Counts) : Type 0 where
  pub request : Option Request
  pub asked : RequestedBy arguments request
  pub answered : Answered request yes r r' w w' reads writes

-- and so is what was left unanswered.
pub record LeavesAsked (arguments : Result (Vec (String Global) Global) Error)
    (r r' w w' : Option (List ℕ)) (reads writes : Counts) : Type 0 where
  pub request : Option Request
  pub asked : RequestedBy arguments request
  pub left : Unanswered request r r' w w' reads writes
