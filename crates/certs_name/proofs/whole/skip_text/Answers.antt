use Rattle.certs_name.specs.bcder_primitive.Plain.{plain}
use Rattle.certs_name.proofs.of_bcder_primitive.Primitives.{through, weaker}
use Rattle.certs_name.specs.Inspected.{IsTextOf}
use Rattle.certs_name.proofs.whole.skip_text.Goals as goal

pub returns-in_err-count-clause-reads : goal.returns-in_err-count-clause-reads
returns-in_err-count-clause-reads g c =
    let P = IsTextOf g.L.CharSet.has g.L.CharSet.spell in
    through (λ (x : Unit {0}). x) P (plain g.S.Source.rest c.args.prim.now) _ c.from_residual.result c.in_err-count.field-0.0 c.from_residual.ensures.0 c.from_residual.ensures.1
    (weaker c.in_err-count.field-0.0 (λ none. record { none = λ text x is w. none text w }) c.in_err-count.ensures.refused)
