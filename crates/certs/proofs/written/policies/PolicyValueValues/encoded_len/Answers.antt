use Rattle.std.proofs.Common.{ℕ, List}
use Rattle.certs.specs.bcder_tree.Tags.{sequence_tag}
use Rattle.certs.specs.bcder.Kinds.{oid}
use Rattle.certs.specs.Outputs.{inside, of}
use Rattle.certs.proofs.Same.{len_same, no_len_same}
use Rattle.certs.proofs.written.policies.PolicyValueValues.encoded_len.Goals as goal

pub returns-clause-len : goal.returns-clause-len
returns-clause-len c = len_same (λ (octets : List ℕ). inside sequence_tag (inside sequence_tag (of oid octets))) c.args.mode _ c.identifier-policy.ensures c.encoded_len.ensures.len

pub returns-clause-refused : goal.returns-clause-refused
returns-clause-refused c = no_len_same (λ (octets : List ℕ). inside sequence_tag (inside sequence_tag (of oid octets))) c.args.mode _ c.identifier-policy.ensures c.encoded_len.ensures.refused
