use Rattle.std.proofs.Common.{◌∙◌}
use Rattle.certs.specs.resources_chain.Claims.{Choice}
use Rattle.certs.specs.resources_ip.WrittenFamilies.{both}
use Rattle.certs.specs.Values.{addresses}
use Rattle.certs.proofs.Same.{refused_same, wrote_same}
use Rattle.certs.proofs.written.resources.IpValueValues.write_encoded.Goals as goal

pub returns-clause-written : goal.returns-clause-written
returns-clause-written g c = wrote_same (λ (v6 : Choice). addresses (both c.args.self.now.v4 v6)) c.args.mode _ _ _ (c.encode_families-value.ensures.v6 ∙ c.second-v6.ensures) (wrote_same (λ (v4 : Choice). addresses (both v4 c.encode_families-value.result.v6.now)) c.args.mode _ _ _ (c.encode_families-value.ensures.v4 ∙ c.first-v4.ensures) c.write_encoded.ensures.written)

pub returns-clause-refused : goal.returns-clause-refused
returns-clause-refused g c = refused_same (λ (v6 : Choice). addresses (both c.args.self.now.v4 v6)) c.args.mode _ _ _ _ (c.encode_families-value.ensures.v6 ∙ c.second-v6.ensures) (refused_same (λ (v4 : Choice). addresses (both v4 c.encode_families-value.result.v6.now)) c.args.mode _ _ _ _ (c.encode_families-value.ensures.v4 ∙ c.first-v4.ensures) c.write_encoded.ensures.refused)
