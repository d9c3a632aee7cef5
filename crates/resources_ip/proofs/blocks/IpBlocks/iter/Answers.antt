use Rattle.std.proofs.Common.{List, sym, subst, ◌∙◌}
use Rattle.resources_ip.specs.resources_chain.Sets.{Run, InRuns}
use Rattle.resources_ip.proofs.WideSets.{within_all}
use Rattle.resources_ip.proofs.blocks.IpBlocks.iter.Goals as goal

pub returns-clause-addresses : goal.returns-clause-addresses
returns-clause-addresses c n i = within_all c.as_slice.result.now n (subst (λ (s : List Run). InRuns s n) (sym (c.as_slice.ensures.runs ∙ c.as_chain.ensures.runs ∙ c.self.view_is)) i)
