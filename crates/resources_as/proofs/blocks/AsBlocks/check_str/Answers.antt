use Rattle.std.proofs.Common.{◌≡◌, [], length, arith}
use Rattle.resources_as.proofs.Texts.{empty_is, checked}
use Rattle.resources_as.proofs.blocks.AsBlocks.check_str.Goals as goal

pub returns-then-is_empty : goal.returns-then-is_empty
returns-then-is_empty c = let size : length c.args.text.now ≡ 0 = grind (arith, c.if-is_empty.true) in ([], empty_is c.args.text.now size)

pub returns-else-is_empty : goal.returns-else-is_empty
returns-else-is_empty c = checked c.args.text.now c.check_blocks.result (λ e. grind (arith, c.if-is_empty.false)) c.check_blocks.ensures
