use Rattle.certs_verify.specs.certs_key.Digesting.{digests_of}
use Rattle.objects_rta_valid.specs.Paths.{PathsValue}
use Rattle.objects_rta_valid.proofs.Answering.{other_answer, walk_fails}
use Rattle.objects_rta_valid.proofs.validation.examine.Goals as goal

pub returns-in-Err-judge-clause-validates : goal.returns-in-Err-judge-clause-validates
returns-in-Err-judge-clause-validates g c =
    other_answer (Unit {0}) PathsValue (digests_of g.D.Digester.sha256_digest g.D.Digester.sha1_digest c.args.terms.now.digester.now) (g.V.Verifier.says c.args.verifier.now) c.args.terms.now.strict c.args.terms.now.moment c.args.rta.now c.in-Err-judge.error c.in-Err-judge.ensures.validates

pub returns-in-Err-clause-validates : goal.returns-in-Err-clause-validates
returns-in-Err-clause-validates g c =
    walk_fails PathsValue (digests_of g.D.Digester.sha256_digest g.D.Digester.sha1_digest c.args.terms.now.digester.now) (g.V.Verifier.says c.args.verifier.now) c.args.terms.now.strict c.args.terms.now.moment c.args.rta.now c.in-Err.error c.in-Err.ensures
