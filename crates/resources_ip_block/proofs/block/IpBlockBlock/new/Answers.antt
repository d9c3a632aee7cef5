use Rattle.std.proofs.Common.{◌≡◌, ◌≢◌, ℕ, ◌≤◌, sym, subst}
use Rattle.resources_ip_block.specs.declared.range.AddressRange.{AddressRange}
use Rattle.resources_ip_block.specs.Range.{run_of_range}
use Rattle.resources_ip_prefix.specs.Prefixes.{first_of, prefix_run}
use Rattle.resources_ip_block.proofs.block.IpBlockBlock.new.Goals as goal

pub returns-in-Err-clause-form : goal.returns-in-Err-clause-form
returns-in-Err-clause-form c = subst (λ (r : AddressRange). (addr len : ℕ) → len ≤ 128 → first_of len addr ≡ addr → prefix_run addr len ≢ run_of_range r) (sym c.in-Err.ensures.0) c.in-Err.ensures.1
