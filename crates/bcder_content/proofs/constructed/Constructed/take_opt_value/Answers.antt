use Rattle.bcder_content.specs.Either.{ByContent, AnyKind}
use Rattle.bcder_content.specs.Here.{here}
use Rattle.bcder_content.proofs.Eithers.{takes_next_failed}
use Rattle.bcder_content.proofs.constructed.Constructed.take_opt_value.Goals as goal

pub returns-in-Err-clause-taken : goal.returns-in-Err-clause-taken
returns-in-Err-clause-taken g c = record { cases = takes_next_failed (ByContent g.S.Source.rest g.F.FnOnce c.args.op) AnyKind (here g.S.Source.rest c.args.self.now) _ c.in-Err.error c.in-Err.ensures.refused }
