use Rattle.std.proofs.Common.{ap, ◌∙◌, ℕ, List, arith, subst, take}
use Rattle.std.specs.Int.{to_be_bytes, w128}
use Rattle.std.specs.Result.{IfOk, IfErr}
use Rattle.resources_ip_prefix.specs.bcder_octets.Bits.{BitsValue}
use Rattle.resources_ip_prefix.specs.bcder_octets.BitContents.{WritesBits}
use Rattle.resources_ip_prefix.specs.declared.addr.Addr.{Addr}
use Rattle.resources_ip_prefix.specs.Address.{bits_of}
use Rattle.resources_ip_prefix.specs.Prefix.{prefix_len}
use Rattle.resources_ip_prefix.specs.Written.{octet_count}
use Rattle.resources_ip_prefix.proofs.Spelled.{same_spelled}
use Rattle.resources_ip_prefix.specs.bcder_primitive.Contents.{NoContent}
use Rattle.resources_ip_prefix.specs.bcder_primitive.Writing.{HasLength}
use Rattle.resources_ip_prefix.proofs.encode.PrefixPrimitiveContent.encoded_len.Goals as goal

pub returns-clause-len : goal.returns-clause-len
returns-clause-len c =
    let count = c.count_octets-count.ensures ∙ ap octet_count c.addr_len-len.ensures.value in
    let octets = c.to_bytes-octets.ensures ∙ ap (λ (a : Addr). to_be_bytes w128 (bits_of a)) c.addr.ensures in
    let same = same_spelled c.args.self.now (omega (arith, count, c.from.ensures, c.addr_len-len.ensures.value)) (ap (λ (k : ℕ). take k c.to_bytes-octets.result) count ∙ ap (λ (v : List ℕ). take (octet_count (prefix_len c.args.self.now)) v) octets) in
    subst (λ (v : BitsValue). IfOk c.encoded_len.result (HasLength (WritesBits c.args.mode v))) same c.encoded_len.ensures.len

pub returns-clause-refused : goal.returns-clause-refused
returns-clause-refused c =
    let count = c.count_octets-count.ensures ∙ ap octet_count c.addr_len-len.ensures.value in
    let octets = c.to_bytes-octets.ensures ∙ ap (λ (a : Addr). to_be_bytes w128 (bits_of a)) c.addr.ensures in
    let same = same_spelled c.args.self.now (omega (arith, count, c.from.ensures, c.addr_len-len.ensures.value)) (ap (λ (k : ℕ). take k c.to_bytes-octets.result) count ∙ ap (λ (v : List ℕ). take (octet_count (prefix_len c.args.self.now)) v) octets) in
    subst (λ (v : BitsValue). IfErr c.encoded_len.result (NoContent c.args.mode (WritesBits c.args.mode v))) same c.encoded_len.ensures.refused
