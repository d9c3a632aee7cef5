-- The answer to what is asked of a bundle's world, and whether it is a yes.
use Rattle.std.specs.Prelude.{ℕ, Bool, List}
use Rattle.rpki_validator.specs.rpki_rules.World.{World}
use Rattle.rpki_questions.specs.Costed.{Costs}
use Rattle.rpki_questions.specs.Judged.{Judges, witness_asked}
use Rattle.rpki_questions.specs.Reached.{Reaches}
use Rattle.rpki_questions.specs.Refused.{TellsRefusals}
use Rattle.rpki_questions.specs.Requests.{Asked, Cost, Judge, Reach, Refusals, Why}
use Rattle.rpki_questions.specs.Told.{Tells}

-- The text is that of the answer to this question, as JSON or as lines.
abbrev pub IsAnswer : World → Bool → Asked → Bool → List ℕ → Type 0
IsAnswer w json (Judge locator object chain) is_yes text =
    Judges w json (witness_asked locator object chain) is_yes text
IsAnswer w json (Reach uris) is_yes text = Reaches w json uris is_yes text
IsAnswer w json (Why name) is_yes text = Tells w json name is_yes text
IsAnswer w json Refusals is_yes text = TellsRefusals w json is_yes text
IsAnswer w json (Cost limit) is_yes text = Costs w json limit is_yes text
