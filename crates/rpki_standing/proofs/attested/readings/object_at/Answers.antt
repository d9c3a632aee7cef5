use Rattle.std.proofs.Common.{Bool, subst}
use Rattle.rpki_rules.specs.World.{world_of}
use Rattle.rpki_standing.specs.Texts.{FindsText}
use Rattle.rpki_standing.proofs.Failing.{if_ok}
use Rattle.rpki_standing.proofs.Reading.{no_extension, reading_told}
use Rattle.rpki_standing.proofs.attested.readings.object_at.Goals as goal

pub returns-in_default : goal.returns-in_default
returns-in_default c = λ d v o x t.
    no_extension (world_of d v c.args.index.now) c.args.key.now c.extension_of.result c.in_default.is c.extension_of.ensures o x t

pub returns : goal.returns
returns c =
    let octets = c.in-Some-object.object.now.octets in
    if_ok (FindsText c.strict.result c.in-Some.extension octets) _ _ (λ r f d v.
    reading_told d v c.args.index.now c.args.key.now octets c.in-Some.extension c.extension_of.result c.in-Some.is c.extension_of.ensures c.in-Some-object.ensures.found r (subst (λ (strict : Bool). FindsText strict c.in-Some.extension octets r) c.strict.ensures f)) c.payload_in.ensures
