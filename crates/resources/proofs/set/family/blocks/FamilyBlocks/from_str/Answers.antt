use Rattle.std.proofs.lemmas.Result.{err_from_is_err_and}
use Rattle.resources.proofs.set.family.blocks.FamilyBlocks.from_str.Goals as goal

pub returns-in_err-blocks-clause-reads : goal.returns-in_err-blocks-clause-reads
returns-in_err-blocks-clause-reads g c = let p = err_from_is_err_and c.from_residual.result c.from_residual.ensures.1 in rw (p.1, p.2) (rw c.family.ensures at c.in_err-blocks.ensures.reads)
