use Rattle.objects_payload.proofs.of_bcder_content.Simple.{unit_one}
use Rattle.objects_payload.proofs.of_bcder_content.Unique.{as_one, end_one, inside_one, many_one, octets_one, such_one, then_one}
use Rattle.objects_payload.specs.Listing.{as_id_one}
use Rattle.objects_payload.proofs.aspa.laws.one_attestation.Goals as goal

pub returns : goal.returns
returns c =
    such_one (as_one (inside_one (then_one (inside_one (then_one (octets_one unit_one) end_one)) (then_one as_id_one (then_one (inside_one (many_one as_id_one)) end_one)))))
