use Rattle.std.proofs.Common.{subst, IfNone}
use Rattle.bcder_source.specs.Limits.{view}
use Rattle.bcder_source.specs.Views.{left}
use Rattle.bcder_content.specs.Openings.{NoHead}
use Rattle.bcder_content.proofs.Opening.{no_head}
use Rattle.bcder_content.proofs.header.enter.Goals as goal

pub returns-in_default-clause-none : goal.returns-in_default-clause-none
returns-in_default-clause-none g c =
    no_head (subst (λ o. IfNone o (NoHead c.args.mode (left (view g.S.Source.rest c.args.source.now)))) c.in_default.is c.in_ok-header.ensures.none)
