use Rattle.resources_ip_prefix.proofs.TextLemmas.{v6_of}
use Rattle.resources_ip_prefix.specs.Address.{bits_of}
use Rattle.resources_ip_prefix.specs.Prefix.{prefix_addr}
use Rattle.resources_ip_prefix.proofs.prefix.Prefix.fmt_v6.Goals as goal

pub returns : goal.returns
returns g c = λ plain ok. rw (v6_of c.to_v6.result (bits_of (prefix_addr c.args.self)) (rw c.addr.ensures at c.to_v6.ensures), c.addr_len.ensures.value) at (c.write.ensures.writes plain ok)
