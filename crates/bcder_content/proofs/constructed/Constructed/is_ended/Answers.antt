use Rattle.std.proofs.Common.{◌↔◌, IsTrue, subst, sym}
use Rattle.bcder_content.specs.Contents.{octets, EndsHere}
use Rattle.bcder_content.specs.Here.{here}
use Rattle.bcder_content.proofs.Windows.{shown}
use Rattle.bcder_content.proofs.Taking.{end_told}
use Rattle.bcder_content.proofs.constructed.Constructed.is_ended.Goals as goal

pub returns-in_ok-request-in-Indefinite-clause-told : goal.returns-in_ok-request-in-Indefinite-clause-told
returns-in_ok-request-in-Indefinite-clause-told g c =
    let r = c.in_ok-request-in-Indefinite.ensures in
    let told = end_told c.is_end.result (shown r.same c.slice.ensures.slice r.available r.there r.enough) c.is_end.ensures.yes c.is_end.ensures.no in
    subst (λ end. IsTrue c.is_end.result ↔ EndsHere end (octets (here g.S.Source.rest c.args.self.now))) (sym c.in-Indefinite.is) told
