use Rattle.resources_asn.proofs.IterLemmas.{next_block}
use Rattle.resources_asn.proofs.as_block.iter.AsnIterIterator.next.Goals as goal

pub returns-clause-steps : goal.returns-clause-steps
returns-clause-steps c =
    next_block _ _ _ c.in_ok-first.behind.now c.in_ok-first.first.now _ _ c.next-2.result c.self.view_is c.in_default.ensures.steps.0 c.in_ok-first.ensures.cases.0 c.iter-self-inside.ensures c.next-2.ensures.steps
