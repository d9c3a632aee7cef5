use Rattle.std.proofs.Common.{subst}
use Rattle.std.specs.Prelude.{IfErr}
use Rattle.bcder_content.specs.Captures.{rest_of}
use Rattle.bcder_content.specs.Kept.{CapturedValue}
use Rattle.bcder_content.specs.Memory.{OnMemory, InErr}
use Rattle.bcder_content.specs.ClosureReads.{Decoded, fresh}
use Rattle.bcder_content.proofs.captured.Captured.decode.Goals as goal

pub returns-clause-decoded : goal.returns-clause-decoded
returns-clause-decoded g c = subst (λ (v : CapturedValue). Decoded rest_of g.F.FnOnce c.args.op (fresh v.mode v.octets) c.decode.result) c.self.view_is c.decode.ensures.decoded

pub returns-clause-memory : goal.returns-clause-memory
returns-clause-memory g c = subst (λ (v : CapturedValue). IfErr c.decode.result (λ e. OnMemory e (InErr rest_of g.F.FnOnce c.args.op (fresh v.mode v.octets) e))) c.self.view_is c.decode.ensures.memory
