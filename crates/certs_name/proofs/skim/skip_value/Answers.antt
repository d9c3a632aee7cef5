use Rattle.certs_name.specs.bcder_content.Exact.{Lacks}
use Rattle.certs_name.specs.bcder_content.Grammar.{Any}
use Rattle.certs_name.specs.bcder_content.Here.{here}
use Rattle.certs_name.proofs.of_bcder_content.Forests.{absent_next}
use Rattle.certs_name.proofs.of_bcder_content.Taking.{on_content}
use Rattle.certs_name.proofs.of_bcder_content.Took.{ended_none}
use Rattle.certs_name.proofs.skim.skip_value.Goals as goal

pub returns-in-Ok-None : goal.returns-in-Ok-None
returns-in-Ok-None g c =
    let ended = (absent_next (λ (x : Unit {0}). x) Any _ c.in-Ok-None.field-0-is c.in-Ok-None.ensures.skipped).1 in
    let lacks : Lacks Any (here g.S.Source.rest c.args.cons.now) = record { none = λ t x p a. ended_none ended a.1 } in
    on_content c.content_err.result lacks
