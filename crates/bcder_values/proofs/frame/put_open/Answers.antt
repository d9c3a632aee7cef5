use Rattle.bcder_values.proofs.Wrapping.{open_of}
use Rattle.bcder_values.proofs.of_bcder_primitive.Pieces.{refused_as, stopped, wrote_as, wrote_both, wrote_that, front_as, front_first, front_second}
use Rattle.bcder_values.proofs.frame.put_open.Goals as goal
use Rattle.std.proofs.Common.{◌∷◌, [], refl}
use Rattle.std.proofs.lemmas.Result.{on_ok_weaker}

pub returns-in_err-write_octets-clause-refused : goal.returns-in_err-write_octets-clause-refused
returns-in_err-write_octets-clause-refused g c =
    let e = c.in_err-write_octets.ensures.refused in
    stopped _ _ _ c.from_residual.ensures (e.0, front_as (open_of _ c.requires c.encoded-count.ensures.identifier) (front_first (128 ∷ []) refl e.1))

pub returns-clause-written : goal.returns-clause-written
returns-clause-written g c =
    on_ok_weaker _ (λ a. wrote_as (open_of _ c.requires c.encoded-count.ensures.identifier) (wrote_both (wrote_that _ refl c.in_ok-write_octets.ensures.written) (wrote_that _ refl a))) c.write_octets-2.ensures.written

pub returns-clause-refused : goal.returns-clause-refused
returns-clause-refused g c =
    refused_as _ _ (λ a. front_as (open_of _ c.requires c.encoded-count.ensures.identifier) (front_second (wrote_that _ refl c.in_ok-write_octets.ensures.written) a)) c.write_octets-2.ensures.refused
