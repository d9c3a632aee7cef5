use Rattle.std.proofs.Common.{ap, ◌∙◌}
use Rattle.objects_rta_valid.specs.Nodes.{each_octets}
use Rattle.objects_rta.specs.Attestations.{Attestation}
use Rattle.objects_rta_valid.proofs.Answering.{keys_told}
use Rattle.objects_rta_valid.proofs.walk.are_keys_same.Goals as goal

pub returns : goal.returns
returns c =
    keys_told c.args.rta.now c.as_slice-2.result.now c.as_slice-3.result.now c.signers_of-infos.result.now c.are_same_keys.result
    (ap each_octets c.as_slice-2.ensures.value ∙ c.in_ok-signers.ensures ∙ c.as_slice.ensures.value ∙ c.in_ok-sids.ensures) c.signers_of-infos.ensures
    (ap each_octets c.as_slice-3.ensures.value ∙ c.in_ok-keys.ensures ∙ c.subject_keys.ensures ∙ ap (λ (x : Attestation). x.keys) c.content-content.ensures)
    c.are_same_keys.ensures
