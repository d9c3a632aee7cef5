use Rattle.bcder_content.specs.Either.{ByContentAlone, WithTag}
use Rattle.bcder_content.specs.Here.{here}
use Rattle.bcder_content.proofs.Eithers.{takes_none}
use Rattle.bcder_content.proofs.Taking.{only_on, only_weaker, untold_comes, untold_none}
use Rattle.bcder_content.proofs.constructed.Constructed.take_opt_value_if.Goals as goal

pub returns-in-Err-clause-taken : goal.returns-in-Err-clause-taken
returns-in-Err-clause-taken g c = record {
  cases = (
    only_on c.in-Err.error (λ u. untold_comes u) c.in-Err.ensures.refused,
    record { cases = takes_none (ByContentAlone g.S.Source.rest g.F.FnOnce c.args.op) (WithTag c.args.tag) (here g.S.Source.rest c.args.self.now) (here g.S.Source.rest c.args.self.now) c.in-Err.error (only_weaker c.in-Err.error (λ u. untold_none u) c.in-Err.ensures.refused) },
  );
}
