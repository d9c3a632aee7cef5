use Rattle.objects_payload.specs.resources_ip_prefix.Encodings.{prefix_bits}
use Rattle.objects_payload.proofs.AddressLemmas.{ip_wide, made_address}
use Rattle.objects_payload.proofs.roa.address.RoaIpAddress.new_addr.Goals as goal

pub returns : goal.returns
returns c =
    made_address c.args.addr _ c.args.len c.args.max_length (prefix_bits c.new.result) _ c.new-2.ensures c.new.ensures.addr c.new.ensures.len (ip_wide c.args.addr _ c.from.ensures)
