use Rattle.std.proofs.Common.{subst}
use Rattle.bcder_source.specs.Limits.{view}
use Rattle.bcder_content.specs.Openings.{Closes}
use Rattle.bcder_content.proofs.Windows.{shown, no_end_in}
use Rattle.bcder_content.proofs.header.leave.Goals as goal

pub returns-then-not-is_end-clause-no : goal.returns-then-not-is_end-clause-no
returns-then-not-is_end-clause-no g c = λ n w h.
    let r = c.in_ok-request-in-ToEnd.ensures in
    no_end_in (shown r.same c.slice.ensures.slice r.available r.there r.enough) (c.is_end.ensures.no c.if-not-is_end.true) w
    (subst (λ span. Closes span (view g.S.Source.rest c.args.source.now) w) c.in-ToEnd.is h)
