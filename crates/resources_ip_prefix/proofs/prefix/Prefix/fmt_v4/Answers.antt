use Rattle.resources_ip_prefix.proofs.TextLemmas.{v4_of}
use Rattle.resources_ip_prefix.specs.Address.{bits_of}
use Rattle.resources_ip_prefix.specs.Prefix.{prefix_addr}
use Rattle.resources_ip_prefix.proofs.prefix.Prefix.fmt_v4.Goals as goal

pub returns : goal.returns
returns g c = λ plain ok. rw (v4_of c.to_v4.result (bits_of (prefix_addr c.args.self)) (rw c.addr.ensures at c.to_v4.ensures), c.addr_len.ensures.value) at (c.write.ensures.writes plain ok)
