use Rattle.std.proofs.Common.{rules, false}
use Rattle.bcder_octets.proofs.Visiting.{skipped_part}
use Rattle.bcder_octets.proofs.reading.skip_plain.Goals as goal

pub returns : goal.returns
returns g c = skipped_part _ _ false _ _ _ (record { each = λ a t k d r b s. search rules }) c.skip_opt.ensures.skipped
