use Rattle.std.proofs.Common.{refl}
use Rattle.certs_crl.proofs.of_bcder_content.InMode.{begin, next, next_opt, stop, stop_opt, done}
use Rattle.certs_crl.proofs.of_bcder_content.Unique.{inside_tagged}
use Rattle.certs_crl.proofs.reading.take_tail.Goals as goal

pub returns-in_err-revoked : goal.returns-in_err-revoked
returns-in_err-revoked g c = stop_opt _ begin c.from_residual.ensures c.in_err-revoked.ensures.reads

pub returns-in_err-pair : goal.returns-in_err-pair
returns-in_err-pair g c = stop _ (next_opt _ begin (λ m. inside_tagged _ _) c.in_ok-revoked.ensures.reads) c.from_residual-in_err-pair.ensures c.in_err-pair.ensures

pub returns : goal.returns
returns g c = done (next (next_opt _ begin (λ m. inside_tagged _ _) c.in_ok-revoked.ensures.reads) c.in_ok-pair.ensures) refl
