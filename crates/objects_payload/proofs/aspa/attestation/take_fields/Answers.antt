use Rattle.std.proofs.Common.{refl}
use Rattle.objects_payload.proofs.of_bcder_content.Choosing.{next_by, stop_by}
use Rattle.objects_payload.proofs.of_bcder_content.InMode.{begin, next, stop, done}
use Rattle.objects_payload.specs.Listing.{as_id_one}
use Rattle.objects_payload.proofs.aspa.attestation.take_fields.Goals as goal

pub returns-in_err-_version : goal.returns-in_err-_version
returns-in_err-_version g c = stop _ begin c.from_residual.ensures c.in_err-_version.ensures

pub returns-in_err-customer_as : goal.returns-in_err-customer_as
returns-in_err-customer_as g c = stop_by _ (next begin c.in_ok-_version.ensures) c.from_residual-in_err-customer_as.ensures c.in_err-customer_as.ensures.reads

pub returns-in_err-provider_as_set : goal.returns-in_err-provider_as_set
returns-in_err-provider_as_set g c =
    stop _ (next_by (λ m. as_id_one) (next begin c.in_ok-_version.ensures) c.in_ok-customer_as.ensures.reads) c.from_residual-in_err-provider_as_set.ensures c.in_err-provider_as_set.ensures.reads

pub returns : goal.returns
returns g c =
    done (next (next_by (λ m. as_id_one) (next begin c.in_ok-_version.ensures) c.in_ok-customer_as.ensures.reads) c.in_ok-provider_as_set.ensures.reads) refl
