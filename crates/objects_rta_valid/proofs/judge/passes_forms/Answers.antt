use Rattle.certs_verify.specs.certs_key.Digesting.{digests_of}
use Rattle.objects_rta_valid.proofs.Following.{begins_walked, functional_walked}
use Rattle.objects_rta_valid.proofs.Judging.{forms_told}
use Rattle.objects_rta_valid.proofs.judge.passes_forms.Goals as goal

pub have_forms-requires-clause-inside : goal.have_forms-requires-clause-inside
have_forms-requires-clause-inside g c = begins_walked c.args.rta.now c.args.paths.now c.requires

pub have_forms-requires-clause-functional : goal.have_forms-requires-clause-functional
have_forms-requires-clause-functional g c = functional_walked c.args.rta.now c.args.paths.now c.requires

pub returns : goal.returns
returns g c =
    forms_told (digests_of g.D.Digester.sha256_digest g.D.Digester.sha1_digest c.args.digester.now) c.args.strict c.args.rta.now c.args.paths.now.paths c.certs_of.result.now c.have_forms.result
    c.requires.walk.only c.certs_of.ensures c.have_forms.ensures
