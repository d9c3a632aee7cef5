use Rattle.certs_key.proofs.Encodings.{encoded_alone}
use Rattle.certs_key.proofs.key.PublicKey.encoded.Goals as goal

pub returns-clause-der : goal.returns-clause-der
returns-clause-der c = rw (c.as_slice.ensures, ← c.self.view_is) c.self.invariant

pub returns-clause-octets : goal.returns-clause-octets
returns-clause-octets c = encoded_alone _ _ (returns-clause-der c)
