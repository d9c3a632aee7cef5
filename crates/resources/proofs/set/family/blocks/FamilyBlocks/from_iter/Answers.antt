use Rattle.std.proofs.Common.{◌≡◌, ◌++◌, ◌∷◌, [], refl}
use Rattle.std.proofs.lemmas.List.{map-append}
use Rattle.std.specs.Prelude.{map}
use Rattle.resources.specs.resources_ip_block.Block.{run_of_block}
use Rattle.resources.specs.Families.{FitsBlock}
use Rattle.resources.proofs.FamilyLemmas.{fit_push}
use Rattle.resources.proofs.set.family.blocks.FamilyBlocks.from_iter.Goals as goal

pub loop-block-preserved : goal.loop-block-preserved
loop-block-preserved g c =
    let listed : c.push.new.self ≡ map run_of_block (c.loop-block.yielded ++ c.in-Some.block ∷ []) = rw (c.in_ok-push.ensures.ok, c.loop-block.invariant.0, c.as_block.ensures.same, map-append run_of_block c.loop-block.yielded (c.in-Some.block ∷ [])) refl in
    let one : FitsBlock g.F.Family.family (run_of_block c.as_block.result) = rw c.as_block.ensures.same c.as_block.ensures.fits in
    (listed, rw c.in_ok-push.ensures.ok (fit_push g.F.Family.family c.loop-block.listed (run_of_block c.as_block.result) c.loop-block.invariant.1 one))
