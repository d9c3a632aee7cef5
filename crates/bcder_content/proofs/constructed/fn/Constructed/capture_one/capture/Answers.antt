use Rattle.std.specs.declared.string.ParseError.{Infallible}
use Rattle.bcder_content.specs.Captures.{rest_of}
use Rattle.bcder_content.specs.Grammar.{Any}
use Rattle.bcder_content.specs.Here.{here}
use Rattle.bcder_content.proofs.Taking.{on_content}
use Rattle.bcder_content.proofs.Memories.{told_of_content}
use Rattle.bcder_content.proofs.Took.{ended_none, next_none}
use Rattle.bcder_content.proofs.constructed.fn.Constructed.capture_one.capture.Goals as goal

pub returns-in-Ok-None : goal.returns-in-Ok-None
returns-in-Ok-None c = record { reads = on_content c.content_err.result (record { none = λ t x p a. ended_none (next_none Infallible (λ z. z) Any (here rest_of c.args.cons.now) (here rest_of c.skip_one.new.self) c.in-Ok-None.field-0-is c.in-Ok-None.ensures.skipped) a.1 }); memory = told_of_content _ c.content_err.ensures }
