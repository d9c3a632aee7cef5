use Rattle.certs_cert.proofs.of_certs_key.Identifying.{identifier_tagged}
use Rattle.objects_cms.proofs.of_bcder_content.Tagged.{exact_tagged_opt}
use Rattle.objects_rta.proofs.attestation.keys.take_opt_key.Goals as goal

pub returns : goal.returns
returns g c = exact_tagged_opt identifier_tagged (record { each = λ form tag v r w met. record { old = met.0.now; new = met.1.now; before = met.2; behind = met.3; form_is = met.4; reads = met.5.reads } }) c.take_opt_value_if.ensures.taken
