use Rattle.std.proofs.Common.{ap, ◌∙◌}
use Rattle.resources_asn.specs.Counted.{runs_numbers}
use Rattle.resources_asn.proofs.CountLemmas.{listed_at}
use Rattle.resources_as.proofs.blocks.AsBlocks.iter_asns.Goals as goal

pub returns : goal.returns
returns c =
    listed_at c.self.inside.chain c.args.self.now c.new.result c.as_chain.ensures.maximal c.self.view_is
    (c.new.ensures ∙ ap runs_numbers (c.as_slice.ensures.runs ∙ c.as_chain.ensures.runs ∙ c.self.view_is))
