use Rattle.std.proofs.Common.{ap, ◌∙◌}
use Rattle.certs_key.proofs.of_bcder_content.Choices.{stop_value}
use Rattle.certs_key.proofs.of_bcder_content.Keeping.{same_refusal}
use Rattle.certs_key.proofs.of_bcder_content.Taking.{weaker}
use Rattle.certs_key.proofs.of_bcder_values.KeptRead.{kept_in_gives, kept_in_lacks, kept_in_refused}
use Rattle.certs_key.specs.bcder_content.Kept.{CapturedValue}
use Rattle.certs_key.specs.Reading.{IsParts}
use Rattle.certs_key.proofs.taken.take_kept.Goals as goal

pub returns-in_err-octets : goal.returns-in_err-octets
returns-in_err-octets g c = stop_value _ _ _ _ c.from_residual.ensures (λ l. kept_in_lacks IsParts l) c.in_err-octets.ensures.captured

pub returns-in-Err : goal.returns-in-Err
returns-in-Err g c =
    let same = c.in_ok-shared.ensures in
    same_refusal _ _ _ c.convert.ensures
    (weaker _ (λ none. kept_in_refused IsParts c.in_ok-octets.ensures.captured (ap (λ (x : CapturedValue). x.mode) same ∙ c.in_ok-octets.ensures.mode) (ap (λ (x : CapturedValue). x.octets) same) none) c.in-Err.ensures)

pub returns-in-Ok : goal.returns-in-Ok
returns-in-Ok g c =
    let same = c.in_ok-shared.ensures in
    kept_in_gives IsParts c.in_ok-octets.ensures.captured c.in_ok-octets.ensures.mode (ap (λ (x : CapturedValue). x.mode) same ∙ c.in_ok-octets.ensures.mode) (ap (λ (x : CapturedValue). x.octets) same) c.in-Ok.ensures
