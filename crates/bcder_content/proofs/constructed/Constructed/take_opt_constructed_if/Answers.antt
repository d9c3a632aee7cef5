use Rattle.std.proofs.Common.{true}
use Rattle.bcder_content.specs.ClosureReads.{no_value}
use Rattle.bcder_content.proofs.Taking.{only_on, none_of, untold_comes, untold_none}
use Rattle.bcder_content.proofs.constructed.Constructed.take_opt_constructed_if.Goals as goal

pub returns-in-Err-clause-ran : goal.returns-in-Err-clause-ran
returns-in-Err-clause-ran g c = record {
  cases = (
    only_on c.in-Err.error (λ u. untold_comes u) c.in-Err.ensures.refused,
    record { cases = only_on c.in-Err.error (λ u. no_value (none_of c.args.tag true (untold_none u))) c.in-Err.ensures.refused },
  );
}
