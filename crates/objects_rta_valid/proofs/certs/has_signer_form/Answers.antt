use Rattle.objects_rta_valid.proofs.Passing.{ok_told}
use Rattle.objects_rta_valid.proofs.certs.has_signer_form.Goals as goal

pub returns : goal.returns
returns g c = ok_told c.inspect_detached_ee.result c.is_ok.result c.is_ok.ensures.value c.inspect_detached_ee.ensures.passed
