use Rattle.objects_cms.specs.bcder_primitive.Plain.{plain}
use Rattle.certs_key.proofs.of_bcder_primitive.Primitives.{through, weaker}
use Rattle.objects_cms.specs.Files.{IsHashContent}
use Rattle.objects_cms.proofs.manifest.file.pass_hash.Goals as goal

pub returns-in_err-count-clause-reads : goal.returns-in_err-count-clause-reads
returns-in_err-count-clause-reads g c =
    through (λ (x : Unit {0}). x) IsHashContent (plain g.S.Source.rest c.args.prim.now) _ c.from_residual.result c.in_err-count.field-0.0 c.from_residual.ensures.0 c.from_residual.ensures.1
    (weaker c.in_err-count.field-0.0 (λ none. record { none = λ text x is w. none text w }) c.in_err-count.ensures.refused)
