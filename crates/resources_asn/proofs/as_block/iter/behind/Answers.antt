use Rattle.std.proofs.Common.{rules}
use Rattle.resources_asn.proofs.CountLemmas.{left_at_last, left_behind}
use Rattle.resources_asn.proofs.as_block.iter.behind.Goals as goal

pub returns-then-eq-clause-left : goal.returns-then-eq-clause-left
returns-then-eq-clause-left c = left_at_last c.args.asn c.args.last (search rules)

pub returns-else-eq-clause-left : goal.returns-else-eq-clause-left
returns-else-eq-clause-left c = left_behind c.args.asn c.args.last c.successor.result c.requires (λ e. search rules) c.successor.ensures
