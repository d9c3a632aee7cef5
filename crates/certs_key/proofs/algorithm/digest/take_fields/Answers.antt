use Rattle.certs_key.proofs.of_bcder_content.InMode.{begin, next, stop, next_opt, stop_opt, done}
use Rattle.certs_key.proofs.of_bcder_content.Unique.{octets_tagged}
use Rattle.certs_key.proofs.Meanings.{null_told}
use Rattle.certs_key.proofs.algorithm.digest.take_fields.Goals as goal

pub returns-in_err-_id-clause-reads : goal.returns-in_err-_id-clause-reads
returns-in_err-_id-clause-reads g c = stop _ begin c.from_residual.ensures c.in_err-_id.ensures.reads

pub returns-in_err-null-clause-reads : goal.returns-in_err-null-clause-reads
returns-in_err-null-clause-reads g c = stop_opt _ (next begin c.in_ok-_id.ensures.reads) c.from_residual-in_err-null.ensures c.in_err-null.ensures.reads

pub returns-clause-reads : goal.returns-clause-reads
returns-clause-reads g c =
    done (next_opt _ (next begin c.in_ok-_id.ensures.reads) (λ m. octets_tagged _ _) c.in_ok-null.ensures.reads) (null_told _ _ c.is_some.ensures)
