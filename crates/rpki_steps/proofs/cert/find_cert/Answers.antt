use Rattle.rpki_steps.proofs.Looked.{cert_told}
use Rattle.rpki_steps.proofs.cert.find_cert.Goals as goal

pub returns : goal.returns
returns c = cert_told c.args.index.now c.args.uri.now c.cert_at.result c.cert_at.ensures.cert
