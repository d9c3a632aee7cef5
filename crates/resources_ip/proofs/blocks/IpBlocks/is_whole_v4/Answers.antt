use Rattle.std.proofs.Common.{◌≡◌, ◌∷◌, List, IsTrue, ap, sym, ◌∙◌}
use Rattle.std.specs.Prelude.{map}
use Rattle.resources_ip_block.specs.declared.block.IpBlock.{IpBlock}
use Rattle.resources_ip_block.specs.Block.{run_of_block}
use Rattle.resources_ip.specs.Blocks.{blocks_left}
use Rattle.resources_ip.specs.resources_ip_prefix.Whole.{IsWhole}
use Rattle.resources_ip.proofs.WholeLemmas.{whole_first, whole_rest}
use Rattle.resources_ip.proofs.blocks.IpBlocks.is_whole_v4.Goals as goal

pub returns-then-not-is_whole_v4 : goal.returns-then-not-is_whole_v4
returns-then-not-is_whole_v4 c =
    let e : map run_of_block (blocks_left c.loop-block.block-iterator) ≡ run_of_block c.in-Some.block ∷ map run_of_block (blocks_left c.next.new.self) = ap (λ (l : List IpBlock). map run_of_block l) c.in-Some.ensures.steps in
    (λ t. absurd cc, λ whole. let one : IsTrue c.is_whole_v4.result = c.is_whole_v4.ensures.1 (whole_first _ _ _ e c.loop-block.invariant.0 (c.loop-block.invariant.1.0 whole)) in sym c.if-not-is_whole_v4.true ∙ one)

pub loop-block-preserved : goal.loop-block-preserved
loop-block-preserved c =
    let e : map run_of_block (blocks_left c.loop-block.block-iterator) ≡ run_of_block c.in-Some.block ∷ map run_of_block (blocks_left c.next.new.self) = ap (λ (l : List IpBlock). map run_of_block l) c.in-Some.ensures.steps in
    let one : IsWhole (run_of_block c.in-Some.block) = c.is_whole_v4.ensures.0 c.if-not-is_whole_v4.false in
    let next = whole_rest _ _ _ e c.loop-block.invariant.0 one in
    (next.0, (λ w. next.1.0 (c.loop-block.invariant.1.0 w), λ w. c.loop-block.invariant.1.1 (next.1.1 w)))
