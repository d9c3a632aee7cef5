use Rattle.rpki_rules.specs.Objects.{AspaText}
use Rattle.rpki_standing.proofs.Reading.{no_aspa, none_in, aspa_text}
use Rattle.rpki_standing.proofs.attested.readings.aspa_in.Goals as goal

pub returns-in-Ok : goal.returns-in-Ok
returns-in-Ok c =
    aspa_text c.args.strict c.args.octets.now _ c.from_aspa.result c.in-Ok.aspa.signed c.in-Ok.aspa.content c.in_ok-clone.ensures.cases c.from_aspa.ensures.object c.from_aspa.ensures.payload c.in-Ok.ensures

pub returns-in-Err-Content : goal.returns-in-Err-Content
returns-in-Err-Content c =
    no_aspa c.args.strict c.args.octets.now (none_in (AspaText c.args.strict) _ _ _ c.args.octets.now c.in-Err-Content.field-0-is (λ h. h) c.in-Err-Content.ensures c.in_ok-clone.ensures.cases)
