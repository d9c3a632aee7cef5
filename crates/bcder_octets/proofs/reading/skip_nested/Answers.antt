use Rattle.std.proofs.Common.{rules, true}
use Rattle.bcder_octets.proofs.Visiting.{skipped_part}
use Rattle.bcder_octets.proofs.reading.skip_nested.Goals as goal

pub returns : goal.returns
returns g c = skipped_part _ _ true _ _ _ (record { each = λ a t k d r b s. search rules }) c.skip_opt.ensures.skipped
