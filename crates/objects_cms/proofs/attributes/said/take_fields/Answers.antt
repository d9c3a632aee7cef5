use Rattle.std.proofs.Common.{ap}
use Rattle.objects_cms.proofs.of_bcder_content.Choosing.{next_by, stop_by}
use Rattle.objects_cms.proofs.of_bcder_content.InMode.{begin, done, next, stop}
use Rattle.objects_cms.proofs.of_bcder_content.Meaning.{means_gives, means_lacks, means_refused}
use Rattle.objects_cms.proofs.of_bcder_content.Taking.{weaker}
use Rattle.objects_cms.specs.declared.attributes.kinds.Kind.{Kind}
use Rattle.objects_cms.specs.Said.{SaidFields, alone}
use Rattle.objects_cms.proofs.AttributeOnes.{kind_one, oid_value_one}
use Rattle.objects_cms.proofs.Single.{kind_is, unfit_by}
use Rattle.objects_cms.proofs.attributes.said.take_fields.Goals as goal

pub returns-in_err-oid : goal.returns-in_err-oid
returns-in_err-oid g c = stop_by _ begin c.from_residual.ensures (weaker _ means_lacks c.in_err-oid.ensures.reads)

pub returns-in_default : goal.returns-in_default
returns-in_default g c = unfit_by begin (means_refused oid_value_one c.in_ok-oid.ensures.reads (λ k h. c.in_default.ensures k h))

pub returns-in_err-said : goal.returns-in_err-said
returns-in_err-said g c = stop _ (next_by (λ m. kind_one) begin (means_gives c.in_ok-oid.ensures.reads c.in-Some.ensures)) c.from_residual-in_err-said.ensures c.in_err-said.ensures

pub returns : goal.returns
returns g c =
    let read = c.in_ok-said.ensures in
    done (next (next_by (λ m. kind_one) begin (means_gives c.in_ok-oid.ensures.reads c.in-Some.ensures)) read)
    (ap (λ (k : Kind). let f : SaidFields = (k, (alone c.in_ok-said.said, tt)) in f) (kind_is _ _ _ _ read.is.is.is))
