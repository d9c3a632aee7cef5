use Rattle.std.proofs.Common.{subst}
use Rattle.resources_ip_block.specs.resources_chain.Sets.{Run}
use Rattle.resources_ip_prefix.specs.Address.{bits_of}
use Rattle.resources_ip_prefix.specs.Prefix.{prefix_addr, prefix_len}
use Rattle.resources_ip_block.specs.Range.{run_of_range}
use Rattle.resources_ip_prefix.specs.Text.{v6_text, slashed}
use Rattle.resources_ip_block.specs.BlockText.{dashed, IsBlockText}
use Rattle.resources_ip_block.proofs.BlockText.{prefix_text, range_text}
use Rattle.resources_ip_block.proofs.block.IpBlock.fmt_v6.Goals as goal

pub returns-in-Ok : goal.returns-in-Ok
returns-in-Ok g c =
    let p = c.in-Ok.prefix in
    let text = slashed (v6_text (bits_of (prefix_addr p))) (prefix_len p) in
    (text, subst (λ (r : Run). IsBlockText v6_text r text) c.in-Ok.ensures (prefix_text v6_text p), c.fmt_v6.ensures)

pub returns-in-Err : goal.returns-in-Err
returns-in-Err g c =
    let r = run_of_range c.in-Err.range in
    let text = dashed (v6_text r.first) (v6_text r.last) in
    (text, subst (λ (s : Run). IsBlockText v6_text s text) c.in-Err.ensures.0 (range_text v6_text r (rw c.in-Err.ensures.0 c.in-Err.ensures.1)), c.fmt_v6-in-Err.ensures)
