use Rattle.resources_ip_prefix.proofs.TextLemmas.{v4_of}
use Rattle.resources_ip_block.specs.Range.{run_of_range}
use Rattle.resources_ip_block.proofs.range.AddressRange.fmt_v4.Goals as goal

pub returns : goal.returns
returns g c = λ plain ok. rw (v4_of c.to_v4.result (run_of_range c.args.self).first (rw c.min.ensures.value at c.to_v4.ensures), v4_of c.to_v4-2.result (run_of_range c.args.self).last (rw c.max.ensures.value at c.to_v4-2.ensures)) at (c.write.ensures.writes plain ok)
