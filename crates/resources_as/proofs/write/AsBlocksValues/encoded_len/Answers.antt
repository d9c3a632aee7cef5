use Rattle.std.specs.Prelude.{IfOk, IfErr}
use Rattle.resources_as.specs.bcder_primitive.Writing.{HasLength, CannotWrite}
use Rattle.resources_as.proofs.Writing.{of_runs}
use Rattle.resources_as.proofs.write.AsBlocksValues.encoded_len.Goals as goal

pub returns-clause-len : goal.returns-clause-len
returns-clause-len c = of_runs c.args.mode (λ T P. IfOk c.encoded_len.result (HasLength P)) c.as_blocks.result.now c.as_blocks.ensures c.encoded_len.ensures.len

pub returns-clause-refused : goal.returns-clause-refused
returns-clause-refused c = of_runs c.args.mode (λ T P. IfErr c.encoded_len.result (CannotWrite T P)) c.as_blocks.result.now c.as_blocks.ensures c.encoded_len.ensures.refused
