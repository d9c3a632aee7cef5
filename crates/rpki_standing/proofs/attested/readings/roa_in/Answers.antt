use Rattle.rpki_rules.specs.Objects.{RoaText}
use Rattle.rpki_standing.proofs.Reading.{no_roa, none_in, roa_text}
use Rattle.rpki_standing.proofs.attested.readings.roa_in.Goals as goal

pub returns-in-Ok : goal.returns-in-Ok
returns-in-Ok c =
    roa_text c.args.strict c.args.octets.now _ c.from_roa.result c.in-Ok.roa.signed c.in-Ok.roa.content c.in_ok-clone.ensures.cases c.from_roa.ensures.object c.from_roa.ensures.payload c.in-Ok.ensures

pub returns-in-Err-Content : goal.returns-in-Err-Content
returns-in-Err-Content c =
    no_roa c.args.strict c.args.octets.now (none_in (RoaText c.args.strict) _ _ _ c.args.octets.now c.in-Err-Content.field-0-is (λ h. h) c.in-Err-Content.ensures c.in_ok-clone.ensures.cases)
