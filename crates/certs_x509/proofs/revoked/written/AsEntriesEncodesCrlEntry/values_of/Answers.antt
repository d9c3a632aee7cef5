use Rattle.certs_x509.proofs.Made.{entry_text, entry_trees}
use Rattle.certs_x509.proofs.revoked.written.AsEntriesEncodesCrlEntry.values_of.Goals as goal

pub returns-clause-trees : goal.returns-clause-trees
returns-clause-trees c = λ m ts.
    entry_trees c.args.item.now c.values_of.ensures.tag c.values_of.ensures.serial_tag c.values_of.ensures.serial c.values_of.ensures.small c.values_of.ensures.time m ts

pub returns-clause-writes : goal.returns-clause-writes
returns-clause-writes c = λ m text.
    entry_text c.args.item.now c.values_of.ensures.tag c.values_of.ensures.serial_tag c.values_of.ensures.serial c.values_of.ensures.small c.values_of.ensures.time m text
