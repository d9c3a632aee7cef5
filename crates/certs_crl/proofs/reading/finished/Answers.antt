use Rattle.std.proofs.Common.{refl}
use Rattle.certs_crl.proofs.Listed.{stop_finish}
use Rattle.certs_crl.proofs.reading.finished.Goals as goal

pub returns-in_err-said : goal.returns-in_err-said
returns-in_err-said c = stop_finish _ _ _ c.from_residual.ensures c.in_err-said.ensures

pub returns : goal.returns
returns c = record { has_null = refl; issuer = refl; this_update = refl; next_update = refl; revoked = c.revoked_in.ensures; extensions = c.in_ok-said.ensures }
