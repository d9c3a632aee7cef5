use Rattle.resources_ip_prefix.proofs.Printed.{prefix_printed, max_len_printed}
use Rattle.resources_ip_prefix.proofs.ip_addr.laws.printed_texts_are_read.Goals as goal

pub returns-clause-prefixes : goal.returns-clause-prefixes
returns-clause-prefixes c = prefix_printed

pub returns-clause-max_lens : goal.returns-clause-max_lens
returns-clause-max_lens c = max_len_printed
