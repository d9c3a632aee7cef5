use Rattle.std.proofs.Common.{◌≡◌, Bool, ◌∙◌}
use Rattle.std.specs.Prelude.{List}
use Rattle.certs_extension.specs.CrlText.{RevokedValue}
use Rattle.certs_x509.specs.Listed.{has_serial}
use Rattle.certs_x509.proofs.Searches.{found_is, no_error, tells}
use Rattle.certs_x509.proofs.revoked.search.has_serial.Goals as goal
use Rattle.certs_x509.proofs.revoked.search.has_serial.Goals.{in-Ok, in-Err}

pub returns : goal.returns
returns c = λ xs s.
    let t = tells {says = λ (ys : List RevokedValue) (found : Bool). found ≡ has_serial c.args.serial ys} c.decode.result (record { ok = λ p q r h. h.0; tells = λ p q r h. h.1.0; sound = λ p q r h. h.1.1 }) s c.decode.ensures.decoded c.decode.ensures.memory in
    elim c.match-decode.branch [
      | in-Ok w ↦ w.result-is ∙ found_is c.decode.result w.in-Ok.is t.1
      | in-Err w ↦ no_error c.decode.result w.in-Err.is t.0
    ]
