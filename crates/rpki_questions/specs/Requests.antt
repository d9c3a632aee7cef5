-- What a program's arguments ask of a bundle.
use Rattle.std.specs.Prelude.{◌≡◌, ◌≢◌, ◌⊎◌, ◌<◌, ◌^◌, ℕ, Bool, true, false, List, [], ◌∷◌, ◌++◌, Option, Some, None, codes, map, string_bytes}
use Rattle.std.specs.Str.Parse.{IsNumeral, digits_value, without_leading_plus}
use Rattle.rpki_questions.specs.declared.requests.Question.{Question}
use Rattle.rpki_questions.specs.declared.requests.Question.TheVariants as of
use Rattle.rpki_questions.specs.declared.requests.Request.{Request}

-- A question, by the texts and the numbers in it.
pub data Asked : Type 0 where
  Judge : (locator object : List ℕ) (chain : List (List ℕ)) → Asked
  Reach : (uris : List (List ℕ)) → Asked
  Why : (uri : List ℕ) → Asked
  Refusals : Asked
  Cost : (limit : ℕ) → Asked

abbrev pub asked_of : Question → Asked
asked_of (of.Judge locator object anchor below) =
    Judge locator.now object.now (anchor.now ∷ map string_bytes below.now)
asked_of (of.Reach uris) = Reach (map string_bytes uris.now)
asked_of (of.Why uri) = Why uri.now
asked_of of.Refusals = Refusals
asked_of (of.Cost limit) = Cost limit

-- The word that names the kind of question.
abbrev pub verb_of : Asked → List ℕ
verb_of (Judge locator object chain) = codes "judge"
verb_of (Reach uris) = codes "reach"
verb_of (Why uri) = codes "why"
verb_of Refusals = codes "refusals"
verb_of (Cost limit) = codes "cost"

-- A decimal number of 64 bits at most; a plus sign may stand in front of it.
pub record IsLimitText (text : List ℕ) (limit : ℕ) : Type 0 where
  pub numeral : IsNumeral 10 (without_leading_plus text)
  pub value : digits_value 10 (without_leading_plus text) ≡ limit
  pub fits : limit < 2 ^ 64

-- The most chains that are counted where no limit is given.
abbrev pub usual_limit : ℕ
usual_limit = 1000000

-- The words behind the verb. A chain has a certificate, and what may be changed is one URI at least.
abbrev pub AreWords : Asked → List (List ℕ) → Type 0
AreWords (Judge locator object chain) words = (words ≡ locator ∷ object ∷ chain) × (chain ≢ [])
AreWords (Reach uris) words = (words ≡ uris) × (uris ≢ [])
AreWords (Why uri) words = words ≡ uri ∷ []
AreWords Refusals words = words ≡ []
AreWords (Cost limit) words =
    ((words ≡ []) × (limit ≡ usual_limit))
    ⊎ ((text : List ℕ) × (words ≡ text ∷ []) × IsLimitText text limit)

-- Behind that verb the words ask the question.
pub record IsOf (verb : List ℕ) (words : List (List ℕ)) (asked : Asked) : Type 0 where
  pub verb_is : verb_of asked ≡ verb
  pub words_are : AreWords asked words

-- The words ask the question.
pub record IsAskedBy (words : List (List ℕ)) (asked : Asked) : Type 0 where
  pub verb : List ℕ
  pub others : List (List ℕ)
  pub words_are : words ≡ verb ∷ others
  pub is_of : IsOf verb others asked

-- In front of the question, where JSON is wanted.
abbrev pub flag_of : Bool → List (List ℕ)
flag_of true = codes "--json" ∷ []
flag_of false = []

-- The program's name, the flag, and words that ask the question.
pub record AsksFor (words : List (List ℕ)) (json : Bool) (asked : Asked) : Type 0 where
  pub program : List ℕ
  pub question : List (List ℕ)
  pub words_are : words ≡ program ∷ (flag_of json ++ question)
  pub asks : IsAskedBy question asked

-- The request is what the words ask; there is none where they ask for nothing of that.
abbrev pub Requests : List (List ℕ) → Option Request → Type 0
Requests words None = (json : Bool) (asked : Asked) → AsksFor words json asked → ⊥
Requests words (Some r) = AsksFor words r.json (asked_of r.question)
