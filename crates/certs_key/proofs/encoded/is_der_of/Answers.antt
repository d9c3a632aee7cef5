use Rattle.std.proofs.Common.{sym, ◌∙◌}
use Rattle.std.proofs.lemmas.Slice.Eq.{bytes_eq-Decides}
use Rattle.certs_key.proofs.Encodings.{same_encodes}
use Rattle.certs_key.proofs.encoded.is_der_of.Goals as goal

pub returns-in-Ok : goal.returns-in-Ok
returns-in-Ok c = λ t.
    same_encodes _ _ _ _ c.encoder.ensures c.new-target.ensures.none c.in-Ok.ensures.written
    (sym c.taken.ensures ∙ (bytes_eq-Decides c.taken.result.now c.args.octets.now).0 (sym c.eq.ensures ∙ t))
