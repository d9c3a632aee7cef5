use Rattle.objects_rta_valid.specs.Places.{pairs}
use Rattle.objects_rta_valid.proofs.Following.{begins_walked, functional_walked}
use Rattle.objects_rta_valid.proofs.Judging.{lists_answered, same_as}
use Rattle.objects_rta_valid.proofs.judge.passes_lists.Goals as goal

pub neighbours-requires-clause-inside : goal.neighbours-requires-clause-inside
neighbours-requires-clause-inside c = begins_walked c.args.rta.now c.args.paths.now c.requires

pub neighbours-requires-clause-functional : goal.neighbours-requires-clause-functional
neighbours-requires-clause-functional c = functional_walked c.args.rta.now c.args.paths.now c.requires

pub returns : goal.returns
returns c =
    lists_answered c.args.rta.now c.args.paths.now.paths c.certs_of.result.now c.as_slice.result.now c.crls_of.result.now c.are_used.result
    c.requires.walk.only c.certs_of.ensures (same_as c.as_slice.result.now c.in_ok-pairs.pairs.items (pairs c.args.paths.now.paths) c.as_slice.ensures.value c.in_ok-pairs.ensures) c.crls_of.ensures c.are_used.ensures
