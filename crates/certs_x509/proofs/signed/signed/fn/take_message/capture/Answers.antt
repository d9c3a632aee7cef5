use Rattle.std.specs.declared.string.ParseError.{Infallible}
use Rattle.certs_x509.specs.bcder_content.Captures.{rest_of}
use Rattle.certs_x509.specs.bcder_content.Grammar.{Any}
use Rattle.certs_x509.specs.bcder_content.Here.{here}
use Rattle.certs_x509.proofs.of_bcder_content.Taking.{on_content}
use Rattle.certs_x509.proofs.of_bcder_content.Took.{ended_none, next_none}
use Rattle.certs_x509.proofs.signed.signed.fn.take_message.capture.Goals as goal

pub returns-in-Ok-None : goal.returns-in-Ok-None
returns-in-Ok-None c = on_content c.content_err.result (record { none = λ t x p a. ended_none (next_none Infallible (λ z. z) Any (here rest_of c.args.cons.now) (here rest_of c.skip_one.new.self) c.in-Ok-None.field-0-is c.in-Ok-None.ensures.skipped) a.1 })
