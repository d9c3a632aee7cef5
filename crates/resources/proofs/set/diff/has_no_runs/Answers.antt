use Rattle.std.proofs.Common.{List, subst, ◌∙◌}
use Rattle.resources.specs.resources_chain.Sets.{Run, AreMaximal}
use Rattle.resources.proofs.Texts.{nones_are}
use Rattle.resources.proofs.set.diff.has_no_runs.Goals as goal

pub returns : goal.returns
returns c =
    let asn : AreMaximal c.args.set.now.asn = subst (λ (s : List Run). AreMaximal s) c.asn.ensures c.runs_are_maximal.ensures in
    let ipv4 : AreMaximal c.args.set.now.ipv4 = subst (λ (s : List Run). AreMaximal s) (c.as_blocks.ensures.same ∙ c.ipv4.ensures) c.runs_are_maximal-2.ensures in
    let ipv6 : AreMaximal c.args.set.now.ipv6 = subst (λ (s : List Run). AreMaximal s) (c.as_blocks-2.ensures.same ∙ c.ipv6.ensures) c.runs_are_maximal-3.ensures in
    nones_are c.is_empty.result c.args.set.now asn ipv4 ipv6 c.is_empty.ensures
