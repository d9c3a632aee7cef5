use Rattle.std.proofs.Common.{List, ap, map, ◌∙◌}
use Rattle.certs_verify.specs.certs_extension.Cert.{CertValue}
use Rattle.objects_rta_valid.specs.Nodes.{each_octets}
use Rattle.objects_rta_valid.specs.Certs.{node_of}
use Rattle.objects_rta_valid.proofs.Answering.{found_told, sids_told}
use Rattle.objects_rta_valid.proofs.walk.only_paths.Goals as goal

pub returns : goal.returns
returns c =
    found_told c.args.rta.now c.as_slice-3.result.now (each_octets c.as_slice-4.result.now) c.paths.result
    (c.as_slice-3.ensures.value ∙ c.in_ok-nodes.ensures ∙ c.as_slice.ensures.value ∙ c.in_ok-keys.ensures ∙ ap (λ (cs : List CertValue). map node_of cs) c.certs_of-certs.ensures)
    (sids_told c.args.rta.now c.as_slice-4.result.now c.signers_of-infos.result.now
    (ap each_octets c.as_slice-4.ensures.value ∙ c.in_ok-signers.ensures ∙ c.as_slice-2.ensures.value ∙ c.in_ok-sids.ensures) c.signers_of-infos.ensures)
    c.paths.ensures
