use Rattle.std.proofs.Common.{refl}
use Rattle.certs_extension.specs.bcder_content.Grammar.{End, Then}
use Rattle.certs_extension.proofs.of_bcder_content.InMode.{begin, next_as, stop_as, done, inside}
use Rattle.certs_extension.specs.Grammars.{IsFullName}
use Rattle.certs_extension.proofs.access.crl.take_point.Goals as goal

pub returns-in_err-uri : goal.returns-in_err-uri
returns-in_err-uri g c = stop_as _ begin c.from_residual.ensures (inside {P = λ m. Then (IsFullName m) End} (record { each = λ p q r h. h }) c.in_err-uri.ensures.ran)

pub returns : goal.returns
returns g c = done (next_as begin (inside {P = λ m. Then (IsFullName m) End} (record { each = λ p q r h. h }) c.in_ok-uri.ensures.ran)) refl
