use Rattle.certs_key.proofs.of_bcder_content.Choices.{stop_value}
use Rattle.certs_key.proofs.of_bcder_content.Taking.{on_content}
use Rattle.certs_key.proofs.Formats.{key_given, key_lacks, key_unfit, some_encodes, none_has}
use Rattle.certs_key.proofs.key.PublicKey.take_next.Goals as goal

pub returns-in_err-octets : goal.returns-in_err-octets
returns-in_err-octets g c = stop_value _ _ _ _ c.from_residual.ensures key_lacks c.in_err-octets.ensures

pub encoded_of-requires : goal.encoded_of-requires
encoded_of-requires g c = c.in_ok-octets.ensures.is.kept.is.is.rest.is.is.lawful

pub returns-in-Ok-Some : goal.returns-in-Ok-Some
returns-in-Ok-Some g c = key_given _ (some_encodes _ c.in-Ok-Some.field-0-is c.in-Ok-Some.ensures) c.in_ok-octets.ensures

pub returns-in-Ok-None : goal.returns-in-Ok-None
returns-in-Ok-None g c = on_content _ (key_unfit (none_has c.in-Ok-None.field-0-is c.in-Ok-None.ensures) c.in_ok-octets.ensures)
