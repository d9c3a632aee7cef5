use Rattle.std.proofs.Common.{refl, sym, ◌∙◌}
use Rattle.certs_key.proofs.Encodings.{lent_encodes, lent_lacks}
use Rattle.certs_key.proofs.encoded.encoded_of.Goals as goal

pub returns-then-is_der_of : goal.returns-then-is_der_of
returns-then-is_der_of c = rw (← c.as_slice.ensures) (c.if-is_der_of.ensures refl)

pub returns-in-Ok : goal.returns-in-Ok
returns-in-Ok c = rw c.into_bytes.ensures.octets (lent_encodes _ _ c.encoder.ensures c.in-Ok.ensures.captured)

pub returns-in-Err-CerUnsupported : goal.returns-in-Err-CerUnsupported
returns-in-Err-CerUnsupported c =
    lent_lacks c.in-Err-CerUnsupported.field-0 (λ m. let t = sym c.in-Err-CerUnsupported.field-0-is ∙ m in cc) c.encoder.ensures c.requires c.in-Err-CerUnsupported.ensures.refused

pub returns-in-Err-TooLong : goal.returns-in-Err-TooLong
returns-in-Err-TooLong c =
    lent_lacks c.in-Err-TooLong.field-0 (λ m. let t = sym c.in-Err-TooLong.field-0-is ∙ m in cc) c.encoder.ensures c.requires c.in-Err-TooLong.ensures.refused

pub returns : goal.returns
returns c =
    lent_lacks c.in-Err-Write.field-0 (λ m. let t = sym c.in-Err-Write.field-0-is ∙ m in cc) c.encoder.ensures c.requires c.in-Err-Write.ensures.refused
