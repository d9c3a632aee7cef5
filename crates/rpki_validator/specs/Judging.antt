-- What a judge says of one witness, and what a walk lists.
use Rattle.std.specs.Prelude.{◌↔◌, ℕ, Bool, IsTrue}
use Rattle.rpki_validator.specs.rpki_rules.Report.{ReportValue, IsReport}
use Rattle.rpki_validator.specs.rpki_rules.Attests.{WitnessValue}
use Rattle.rpki_validator.specs.rpki_rules.Judge.{IsJudged}
use Rattle.rpki_validator.specs.rpki_rules.Words.{Mem}
use Rattle.rpki_validator.specs.rpki_rules.World.{World}

-- A judge says yes exactly to the witnesses that the report of its world lists.
abbrev pub JudgingAgreesWithWalking : Type 0
JudgingAgreesWithWalking =
    (w : World) (r : ReportValue) (t : WitnessValue) (yes : Bool) (points : ℕ)
    → IsReport w r → IsJudged w t yes points → IsTrue yes ↔ Mem r.witnesses t
