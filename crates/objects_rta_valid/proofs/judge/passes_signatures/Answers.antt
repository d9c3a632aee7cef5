use Rattle.std.proofs.Common.{ℕ, List, Option, subst}
use Rattle.std.specs.Prelude.{◌↔◌, IsTrue}
use Rattle.std.specs.List.{AllZip}
use Rattle.objects_rta_valid.specs.Vouched.{IsVouched}
use Rattle.objects_rta_valid.proofs.Following.{begins_walked, functional_walked}
use Rattle.objects_rta_valid.proofs.Judging.{signatures_told}
use Rattle.objects_rta_valid.proofs.judge.passes_signatures.Goals as goal

pub links-requires-clause-inside : goal.links-requires-clause-inside
links-requires-clause-inside g c = begins_walked c.args.rta.now c.args.paths.now c.requires

pub links-requires-clause-functional : goal.links-requires-clause-functional
links-requires-clause-functional g c = functional_walked c.args.rta.now c.args.paths.now c.requires

pub returns-clause-passes : goal.returns-clause-passes
returns-clause-passes g c d strict =
    signatures_told (g.V.Verifier.says c.args.verifier.now) c.args.now c.args.rta.now c.args.paths.now.paths c.certs_of.result.now c.in_ok-behind.behind.items c.args.paths.now.count c.are_vouched.result
    c.requires.walk.only c.certs_of.ensures c.in_ok-behind.ensures c.requires.walk.all
    (subst (λ (ls : List (Option ℕ)). IsTrue c.are_vouched.result ↔ AllZip (IsVouched (g.V.Verifier.says c.args.verifier.now) c.args.now c.certs_of.result.now) c.certs_of.result.now ls) c.as_slice.ensures.value c.are_vouched.ensures.vouched)
    d strict
