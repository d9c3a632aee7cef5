use Rattle.std.proofs.Common.{refl}
use Rattle.certs_key.proofs.of_bcder_content.InMode.{begin, next, stop, done}
use Rattle.certs_key.proofs.algorithm.digest.take_set_fields.Goals as goal

pub returns-in_err-algorithm-clause-reads : goal.returns-in_err-algorithm-clause-reads
returns-in_err-algorithm-clause-reads g c = stop _ begin c.from_residual.ensures c.in_err-algorithm.ensures.reads

pub returns-clause-reads : goal.returns-clause-reads
returns-clause-reads g c = done (next begin c.in_ok-algorithm.ensures.reads) refl
