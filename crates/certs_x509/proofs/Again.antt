-- Signed data that is written is read again.
use Rattle.std.proofs.Common.{Bool, true, false}
use Rattle.certs_x509.specs.bcder_content.Grammar.{Any}
use Rattle.certs_x509.specs.bcder_values.KeptForms.{KeepsOne}
use Rattle.certs_x509.specs.certs_basics.Identifiers.{sha256_with_rsa}
use Rattle.certs_x509.specs.certs_key.Algorithms.{x509_algorithm}
use Rattle.certs_x509.proofs.of_certs_key.Written.{algorithm_sound}
use Rattle.certs_x509.specs.Signed.{SignedDataValue, kept_message, signed, signed_fields}

pub signed_sound : signed.sound
signed_sound = (tt, (algorithm_sound sha256_with_rsa, tt))

algorithm_lawful : (b : Bool) → x509_algorithm.lawful b
algorithm_lawful true = (tt, tt)
algorithm_lawful false = (tt, tt)

pub signed_lawful : (s : SignedDataValue) → KeepsOne (λ m. Any) (kept_message s.message) → signed.lawful (signed_fields s)
signed_lawful s l = (l, (algorithm_lawful s.signature.algorithm, tt))
