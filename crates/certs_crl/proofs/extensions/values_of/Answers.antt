use Rattle.certs_crl.proofs.Pairs.{fronts_read, key_lacks, number_lacks, stop_fronts}
use Rattle.certs_crl.proofs.extensions.values_of.Goals as goal

pub returns-in_err-identifier : goal.returns-in_err-identifier
returns-in_err-identifier c = stop_fronts _ _ _ _ c.from_residual.ensures (λ none. key_lacks c.value.ensures none) c.in_err-identifier.ensures

pub returns-in_err-serial : goal.returns-in_err-serial
returns-in_err-serial c = stop_fronts _ _ _ _ c.from_residual-in_err-serial.ensures (λ none. number_lacks c.value-2.ensures none) c.in_err-serial.ensures

pub returns : goal.returns
returns c = fronts_read c.value.ensures c.value-2.ensures c.in_ok-identifier.ensures c.in_ok-serial.ensures
