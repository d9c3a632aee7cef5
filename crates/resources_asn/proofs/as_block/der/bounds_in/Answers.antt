use Rattle.resources_asn.proofs.of_bcder_content.Forests.{begin, next, stop, done}
use Rattle.resources_asn.proofs.as_block.der.bounds_in.Goals as goal

pub returns-in_err-min-clause-reads : goal.returns-in_err-min-clause-reads
returns-in_err-min-clause-reads g c = stop _ _ _ _ (begin _ _) c.from_residual.ensures c.in_err-min.ensures.reads

pub returns-in_err-max-clause-reads : goal.returns-in_err-max-clause-reads
returns-in_err-max-clause-reads g c = stop _ _ _ _ (next (begin _ _) c.in_ok-min.ensures.reads) c.from_residual-in_err-max.ensures c.in_err-max.ensures.reads

pub returns-clause-reads : goal.returns-clause-reads
returns-clause-reads g c = done (next (next (begin _ _) c.in_ok-min.ensures.reads) c.in_ok-max.ensures.reads)
