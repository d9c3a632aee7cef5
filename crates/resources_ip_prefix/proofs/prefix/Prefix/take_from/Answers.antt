use Rattle.std.proofs.Common.{rules}
use Rattle.resources_ip_prefix.proofs.of_bcder_content.Inside.{exact_octets}
use Rattle.resources_ip_prefix.proofs.Stated.{address_read}
use Rattle.resources_ip_prefix.specs.Encodings.{prefix_bits}
use Rattle.resources_ip_prefix.proofs.prefix.Prefix.take_from.Goals as goal

pub returns-clause-reads : goal.returns-clause-reads
returns-clause-reads g c = address_read prefix_bits c.args.family _ _ _ _ (exact_octets (record { each = λ p q r mode m. search rules }) c.take_primitive_if.ensures.ran)
