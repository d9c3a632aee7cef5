use Rattle.std.proofs.Common.{arith}
use Rattle.resources_as.proofs.Texts.{read_piece_is}
use Rattle.resources_as.proofs.text.read_piece.Goals as goal

pub returns : goal.returns
returns c = read_piece_is c.args.piece.now c.parse.result (λ e. grind (arith, c.if-is_empty.false)) c.parse.ensures.value
