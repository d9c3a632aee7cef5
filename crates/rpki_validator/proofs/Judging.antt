-- A judge and a walk of one world both tell its witnesses.
use Rattle.rpki_validator.specs.Judging.{JudgingAgreesWithWalking}

pub agrees : JudgingAgreesWithWalking
agrees w r t answer points report judged =
    let listed = report.witnesses_are.exact t in
    (λ said. listed.1 (judged.right.0 said), λ m. judged.right.1 (listed.0 m))
