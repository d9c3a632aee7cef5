use Rattle.certs_basics.proofs.of_bcder_content.Forests.{begin, done, next, stop}
use Rattle.certs_basics.proofs.of_bcder_content.Passing.{no_memory_passed}
use Rattle.certs_basics.proofs.time.validity.fn.Validity.take_from.take_sequence.Goals as goal

pub returns-in_err-not_before : goal.returns-in_err-not_before
returns-in_err-not_before g c = record {
  reads = stop _ _ _ _ (begin _ _) c.from_residual.ensures c.in_err-not_before.ensures.reads;
  no_memory = no_memory_passed _ _ c.from_residual.ensures c.in_err-not_before.ensures.no_memory;
}

pub returns-in_err-not_after : goal.returns-in_err-not_after
returns-in_err-not_after g c = record {
  reads = stop _ _ _ _ (next (begin _ _) c.in_ok-not_before.ensures.reads) c.from_residual-in_err-not_after.ensures c.in_err-not_after.ensures.reads;
  no_memory = no_memory_passed _ _ c.from_residual-in_err-not_after.ensures c.in_err-not_after.ensures.no_memory;
}

pub returns : goal.returns
returns g c = record {
  reads = done (next (next (begin _ _) c.in_ok-not_before.ensures.reads) c.in_ok-not_after.ensures.reads);
  no_memory = tt;
}
