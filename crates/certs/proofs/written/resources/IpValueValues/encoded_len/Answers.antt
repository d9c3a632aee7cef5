use Rattle.std.proofs.Common.{◌∙◌}
use Rattle.certs.specs.resources_chain.Claims.{Choice}
use Rattle.certs.specs.resources_ip.WrittenFamilies.{both}
use Rattle.certs.specs.Values.{addresses}
use Rattle.certs.proofs.Same.{len_same, no_len_same}
use Rattle.certs.proofs.written.resources.IpValueValues.encoded_len.Goals as goal

pub returns-clause-len : goal.returns-clause-len
returns-clause-len c = len_same (λ (v6 : Choice). addresses (both c.args.self.now.v4 v6)) c.args.mode _ (c.encode_families-value.ensures.v6 ∙ c.second-v6.ensures) (len_same (λ (v4 : Choice). addresses (both v4 c.encode_families-value.result.v6.now)) c.args.mode _ (c.encode_families-value.ensures.v4 ∙ c.first-v4.ensures) c.encoded_len.ensures.len)

pub returns-clause-refused : goal.returns-clause-refused
returns-clause-refused c = no_len_same (λ (v6 : Choice). addresses (both c.args.self.now.v4 v6)) c.args.mode _ (c.encode_families-value.ensures.v6 ∙ c.second-v6.ensures) (no_len_same (λ (v4 : Choice). addresses (both v4 c.encode_families-value.result.v6.now)) c.args.mode _ (c.encode_families-value.ensures.v4 ∙ c.first-v4.ensures) c.encoded_len.ensures.refused)
