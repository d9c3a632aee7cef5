use Rattle.resources_ip_prefix.proofs.TextLemmas.{v4_of}
use Rattle.resources_ip_prefix.specs.Address.{bits_of}
use Rattle.resources_ip_prefix.proofs.addr.Addr.fmt_v4.Goals as goal

pub returns : goal.returns
returns g c = λ plain ok. rw (v4_of c.to_v4.result (bits_of c.args.self) c.to_v4.ensures) at (c.write.ensures.writes plain ok)
