use Rattle.std.proofs.Common.{refl}
use Rattle.certs_extension.proofs.of_bcder_content.InMode.{begin, next, stop, done, inside}
use Rattle.certs_extension.specs.Grammars.{HaveOneRsync}
use Rattle.certs_extension.proofs.access.crl.take_full_name.Goals as goal

pub returns-in_err-uri : goal.returns-in_err-uri
returns-in_err-uri g c = stop _ begin c.from_residual.ensures (inside {P = HaveOneRsync} (record { each = λ p q r h. h }) c.in_err-uri.ensures.ran)

pub returns : goal.returns
returns g c = done (next begin (inside {P = HaveOneRsync} (record { each = λ p q r h. h }) c.in_ok-uri.ensures.ran)) refl
