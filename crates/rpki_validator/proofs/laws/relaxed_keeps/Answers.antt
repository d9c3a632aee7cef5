use Rattle.std.proofs.Common.{false}
use Rattle.rpki_rules.specs.Versions.{upgraded}
use Rattle.rpki_rules.specs.World.{run_world}
use Rattle.rpki_validator.proofs.Relaxing.{relaxed_keeps}
use Rattle.rpki_validator.proofs.laws.relaxed_keeps.Goals as goal

pub returns : goal.returns
returns c = λ d b. relaxed_keeps (run_world d (upgraded false b))
