use Rattle.resources_ip_prefix.proofs.AddrTexts.{ip_text_is}
use Rattle.resources_ip_prefix.proofs.ip_addr.texts.PrefixDisplay.fmt.Goals as goal

pub returns-clause-writes : goal.returns-clause-writes
returns-clause-writes g c =
    rw (ip_text_is _ _ _ c.addr-addr.ensures.family c.addr-addr.ensures.octets, c.len-len.ensures.value) at c.write.ensures.writes
