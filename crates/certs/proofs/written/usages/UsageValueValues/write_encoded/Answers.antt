use Rattle.certs_key.specs.Forms.{raw}
use Rattle.certs.specs.bcder_octets.BitContents.{bit_string_tag}
use Rattle.certs.specs.bcder_tree.Tags.{TagValue}
use Rattle.certs.specs.Outputs.{of}
use Rattle.certs.proofs.Same.{refused_same, wrote_same}
use Rattle.certs.proofs.written.usages.UsageValueValues.write_encoded.Goals as goal

pub returns-clause-written : goal.returns-clause-written
returns-clause-written g c = wrote_same (of (raw bit_string_tag)) c.args.mode _ _ _ c.bits-value.ensures.octets (wrote_same (λ (tag : TagValue). of (raw tag) c.bits-value.result.content.0.now) c.args.mode _ _ _ c.bits-value.ensures.tag c.write_encoded.ensures.written)

pub returns-clause-refused : goal.returns-clause-refused
returns-clause-refused g c = refused_same (of (raw bit_string_tag)) c.args.mode _ _ _ _ c.bits-value.ensures.octets (refused_same (λ (tag : TagValue). of (raw tag) c.bits-value.result.content.0.now) c.args.mode _ _ _ _ c.bits-value.ensures.tag c.write_encoded.ensures.refused)
