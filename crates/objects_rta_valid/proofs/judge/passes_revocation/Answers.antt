use Rattle.std.proofs.Common.{subst, sym}
use Rattle.objects_rta_valid.specs.Places.{pairs}
use Rattle.objects_rta_valid.specs.Vouched.{AreGoodOf}
use Rattle.objects_rta_valid.proofs.Following.{apart_carried, apart_told, begins_walked, functional_walked}
use Rattle.objects_rta_valid.proofs.Judging.{revocation_answered, same_as}
use Rattle.objects_rta_valid.proofs.judge.passes_revocation.Goals as goal

pub neighbours-requires-clause-inside : goal.neighbours-requires-clause-inside
neighbours-requires-clause-inside g c = begins_walked c.args.rta.now c.args.paths.now c.requires

pub neighbours-requires-clause-functional : goal.neighbours-requires-clause-functional
neighbours-requires-clause-functional g c = functional_walked c.args.rta.now c.args.paths.now c.requires

pub good_lists-requires : goal.good_lists-requires
good_lists-requires g c = apart_carried c.args.rta.now c.args.paths.now c.certs_of-certs.result.now c.requires c.certs_of-certs.ensures

pub returns-clause-passes : goal.returns-clause-passes
returns-clause-passes g c =
    revocation_answered (g.V.Verifier.says c.args.verifier.now) c.args.now c.args.rta.now c.args.paths.now.paths c.certs_of-certs.result.now c.as_slice.result.now c.crls_of.result.now c.as_slice-2.result.now c.are_served.result
    c.requires.walk.only (apart_told c.args.rta.now c.args.paths.now c.requires) c.certs_of-certs.ensures
    (same_as c.as_slice.result.now c.in_ok-pairs.pairs.items (pairs c.args.paths.now.paths) c.as_slice.ensures.value c.in_ok-pairs.ensures) c.crls_of.ensures
    (subst (AreGoodOf (g.V.Verifier.says c.args.verifier.now) c.args.now c.certs_of-certs.result.now c.crls_of.result.now) (sym c.as_slice-2.ensures.value) c.in_ok-lists.ensures.lists)
    c.are_served.ensures
