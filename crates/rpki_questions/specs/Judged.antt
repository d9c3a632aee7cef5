-- What is printed of a judgement: lines, or one JSON object.
use Rattle.std.specs.Prelude.{◌≡◌, ℕ, Bool, true, false, List, ◌++◌, codes, decimal, map}
use Rattle.rpki_questions.specs.certs_basics.Uris.{lookup_key}
use Rattle.rpki_validator.specs.rpki_rules.Attests.{WitnessValue}
use Rattle.rpki_validator.specs.rpki_rules.Judge.{IsJudged}
use Rattle.rpki_validator.specs.rpki_rules.World.{World}
use Rattle.rpki_validator.specs.rpki_judge.Counted.{ReadsPoints}
use Rattle.rpki_reasons.specs.Json.{json_bool}

abbrev pub yes_word : Bool → List ℕ
yes_word true = codes "yes"
yes_word false = codes "no"

-- Whether the object is good, and how many publication points were read.
abbrev pub judgement_text : Bool → Bool → ℕ → List ℕ
judgement_text false good points =
    yes_word good ++ (codes "\npoints " ++ (decimal points ++ codes "\n"))
judgement_text true good points =
    codes "{\"good\":" ++ (json_bool good
    ++ (codes ",\"points\":" ++ (decimal points ++ codes "}\n")))

-- The witness that is asked about; URIs are taken by their lookup keys.
abbrev pub witness_asked : List ℕ → List ℕ → List (List ℕ) → WitnessValue
witness_asked locator object chain =
    record { locator = locator; chain = map lookup_key chain; object = lookup_key object }

-- Whether the witness is good is judged, and told with how many publication points were read for that.
pub record Judges (w : World) (json : Bool) (t : WitnessValue)
    (yes : Bool) (text : List ℕ) : Type 0 where
  pub points : ℕ
  pub judged : IsJudged w t yes points
  pub read : ReadsPoints w t points
  pub text_is : text ≡ judgement_text json yes points
