use Rattle.std.proofs.Common.{IfNone, subst}
use Rattle.bcder_content.specs.Contents.{octets}
use Rattle.bcder_content.specs.Here.{here}
use Rattle.bcder_content.specs.Openings.{NoValue}
use Rattle.bcder_content.proofs.Taking.{none_ahead, refused_by}
use Rattle.bcder_content.proofs.constructed.Constructed.open.Goals as goal

pub returns-in_default-clause-refused : goal.returns-in_default-clause-refused
returns-in_default-clause-refused g c =
    let v = here g.S.Source.rest c.args.self.now in
    refused_by c.refuse-in_default.ensures.error (none_ahead (subst (λ o. IfNone o (NoValue v.mode (octets v))) c.in_default.is c.in-Ok.ensures.none))
