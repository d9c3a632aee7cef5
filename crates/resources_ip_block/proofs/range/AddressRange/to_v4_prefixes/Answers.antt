use Rattle.std.proofs.Common.{◌≡◌, subst}
use Rattle.resources_ip_block.specs.resources_chain.Sets.{Run}
use Rattle.resources_ip_block.specs.Cover.{IsCover, filled}
use Rattle.resources_ip_block.specs.Range.{run_of_range}
use Rattle.resources_ip_block.proofs.range.AddressRange.to_v4_prefixes.Goals as goal

pub returns : goal.returns
returns c = λ prefixes drains.
    let same : run_of_range c.new.result ≡ filled (run_of_range c.args.self) = rw (c.new.ensures, c.to_min.ensures, c.to_max.ensures, c.min.ensures.value, c.max.ensures.value) in
    subst (λ (r : Run). IsCover r prefixes) same (c.to_v6_prefixes.ensures prefixes drains)
