use Rattle.rpki_rules.proofs.of_rpki_bundle.Texts.{text_told}
use Rattle.rpki_standing.proofs.table.index.Index.new.Goals as goal

pub invariant_of-result : goal.invariant_of-result
invariant_of-result c = (text_told c.is_spelled.ensures.1).lawful
