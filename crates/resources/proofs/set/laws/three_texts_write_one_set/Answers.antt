use Rattle.resources.specs.resources_ip_prefix.declared.addr.AddressFamily.TheVariants.{Ipv4, Ipv6}
use Rattle.resources.specs.Equal.{set_is}
use Rattle.resources.proofs.set.laws.three_texts_write_one_set.Goals as goal

pub returns : goal.returns
returns c asn ipv4 ipv6 one other p q =
    set_is (c.a_text_writes_one_set.ensures asn one.asn other.asn p.asns q.asns) (c.a_text_writes_one_set-2.ensures Ipv4 ipv4 one.ipv4 other.ipv4 p.v4s q.v4s) (c.a_text_writes_one_set-2.ensures Ipv6 ipv6 one.ipv6 other.ipv6 p.v6s q.v6s)
