use Rattle.std.proofs.Common.{ℕ, List}
use Rattle.certs.specs.bcder_tree.Tags.{sequence_tag}
use Rattle.certs.specs.bcder.Kinds.{oid}
use Rattle.certs.specs.Outputs.{inside, of}
use Rattle.certs.proofs.Same.{refused_same, wrote_same}
use Rattle.certs.proofs.written.policies.PolicyValueValues.write_encoded.Goals as goal

pub returns-clause-written : goal.returns-clause-written
returns-clause-written g c = wrote_same (λ (octets : List ℕ). inside sequence_tag (inside sequence_tag (of oid octets))) c.args.mode _ _ _ c.identifier-policy.ensures c.write_encoded.ensures.written

pub returns-clause-refused : goal.returns-clause-refused
returns-clause-refused g c = refused_same (λ (octets : List ℕ). inside sequence_tag (inside sequence_tag (of oid octets))) c.args.mode _ _ _ _ c.identifier-policy.ensures c.write_encoded.ensures.refused
