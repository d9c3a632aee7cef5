use Rattle.resources_ip_prefix.proofs.AddrTexts.{prefix_text_once}
use Rattle.resources_ip_prefix.proofs.PrefixLaws.{max_len_text_once}
use Rattle.resources_ip_prefix.proofs.ip_addr.laws.texts_write_one.Goals as goal

pub returns-clause-prefixes : goal.returns-clause-prefixes
returns-clause-prefixes c = prefix_text_once

pub returns-clause-max_lens : goal.returns-clause-max_lens
returns-clause-max_lens c = max_len_text_once
