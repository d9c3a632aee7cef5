use Rattle.certs_key.specs.Forms.{raw}
use Rattle.certs.specs.bcder_octets.BitContents.{bit_string_tag}
use Rattle.certs.specs.bcder_tree.Tags.{TagValue}
use Rattle.certs.specs.Outputs.{of}
use Rattle.certs.proofs.Same.{len_same, no_len_same}
use Rattle.certs.proofs.written.usages.UsageValueValues.encoded_len.Goals as goal

pub returns-clause-len : goal.returns-clause-len
returns-clause-len c = len_same (of (raw bit_string_tag)) c.args.mode _ c.bits-value.ensures.octets (len_same (λ (tag : TagValue). of (raw tag) c.bits-value.result.content.0.now) c.args.mode _ c.bits-value.ensures.tag c.encoded_len.ensures.len)

pub returns-clause-refused : goal.returns-clause-refused
returns-clause-refused c = no_len_same (of (raw bit_string_tag)) c.args.mode _ c.bits-value.ensures.octets (no_len_same (λ (tag : TagValue). of (raw tag) c.bits-value.result.content.0.now) c.args.mode _ c.bits-value.ensures.tag c.encoded_len.ensures.refused)
