use Rattle.resources_ip_prefix.proofs.of_bcder_content.Tagged.{exact_tagged_opt}
use Rattle.resources_ip_prefix.proofs.of_bcder_octets.Wanting.{value_wants}
use Rattle.resources_ip_prefix.specs.bcder_tree.Strings.{octet_string_tag}
use Rattle.resources_ip_prefix.specs.bcder_content.Here.{here}
use Rattle.resources_ip_prefix.specs.bcder_octets.Parts.{IsWhole}
use Rattle.resources_ip_prefix.proofs.Values.{family_has_tag}
use Rattle.resources_ip_prefix.proofs.addr.AddressFamily.take_opt_from.Goals as goal

pub returns-clause-reads : goal.returns-clause-reads
returns-clause-reads g c = exact_tagged_opt family_has_tag (record { each = λ form tag v r w met. record { old = met.0.now; new = met.1.now; before = met.2; behind = met.3; form_is = met.4; reads = met.5.0.reads } }) c.take_opt_value_if.ensures.taken

pub returns-clause-memory : goal.returns-clause-memory
returns-clause-memory g c = value_wants IsWhole g.S.Source.rest (here g.S.Source.rest c.args.cons.now) octet_string_tag c.take_opt_value_if.result (record { each = λ form tag v r w met. record { content = met.0.now; shows = met.2.left_is; form_is = met.4; wants = met.5.1 } }) c.take_opt_value_if.ensures.memory
