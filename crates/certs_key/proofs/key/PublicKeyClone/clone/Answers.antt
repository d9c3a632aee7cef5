use Rattle.certs_key.proofs.Formats.{clone_encodes}
use Rattle.certs_key.proofs.key.PublicKeyClone.clone.Goals as goal

pub invariant_of-result : goal.invariant_of-result
invariant_of-result c = clone_encodes _ c.in_ok-bits.ensures.cases c.in_ok-encoded.ensures.cases c.self.invariant
