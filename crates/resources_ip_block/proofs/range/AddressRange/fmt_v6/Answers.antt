use Rattle.resources_ip_prefix.proofs.TextLemmas.{v6_of}
use Rattle.resources_ip_block.specs.Range.{run_of_range}
use Rattle.resources_ip_block.proofs.range.AddressRange.fmt_v6.Goals as goal

pub returns : goal.returns
returns g c = λ plain ok. rw (v6_of c.to_v6.result (run_of_range c.args.self).first (rw c.min.ensures.value at c.to_v6.ensures), v6_of c.to_v6-2.result (run_of_range c.args.self).last (rw c.max.ensures.value at c.to_v6-2.ensures)) at (c.write.ensures.writes plain ok)
