use Rattle.rpki_judge.proofs.ClimbSteps.{cert_read, cert_missing, chain_read}
use Rattle.rpki_judge.proofs.climb.+read_chain.Goals as goal

pub returns-in_default-2-clause-read : goal.returns-in_default-2-clause-read
returns-in_default-2-clause-read g t c =
    cert_missing g.E.Evidence.cert (g.E.Evidence.world c.args.evidence.now) c.args.chain.now c.in-Some.above.now c.as_slice-uri.result.now c.in-Some.last.now c.in_ok-cert.field-0
    c.in_default-2.is c.as_slice-uri.ensures c.in-Some.ensures.cases.0 c.in_ok-cert.ensures.read

pub returns-clause-read : goal.returns-clause-read
returns-clause-read g t c =
    chain_read g.E.Evidence.cert (g.E.Evidence.world c.args.evidence.now) (g.E.Evidence.world c.read_cert.new.self) c.args.chain.now c.in-Some.above.now c.args.links.now.items c.push.new.self.items c.read_chain.new.links.items
    (record { uri = c.as_slice-uri.result; cert = c.in-Some-2.cert }) c.in-Some.last.now c.read_chain.result
    c.in_ok-cert.ensures.same c.as_slice-uri.ensures c.in-Some.ensures.cases.0 c.in_ok-push.ensures.items
    (cert_read g.E.Evidence.cert (g.E.Evidence.world c.args.evidence.now) c.as_slice-uri.result.now c.in-Some-2.cert c.in_ok-cert.field-0 c.in-Some-2.is c.in_ok-cert.ensures.read) c.read_chain.ensures.read
