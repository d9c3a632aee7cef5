use Rattle.certs_extension.specs.Extensions.{IsExtendedKeyUsage, MustNot}
use Rattle.certs_extension.specs.Raw.{extension_value}
use Rattle.certs_extension.proofs.Filling.{cannot_fill, fills, in_der, weaker_err, weaker_ok}
use Rattle.certs_extension.proofs.claims.values.put_extended_key_usage.Goals as goal

pub returns-clause-ok : goal.returns-clause-ok
returns-clause-ok c = weaker_ok c.put_once.result (λ h. fills MustNot (extension_value c.args.extension) c.args.slot.now (in_der (λ m. IsExtendedKeyUsage) (λ p q r k. k)) h) c.put_once.ensures.ok

pub returns-clause-refused : goal.returns-clause-refused
returns-clause-refused c = weaker_err c.put_once.result (λ fault h. cannot_fill MustNot (extension_value c.args.extension) c.args.slot.now (in_der (λ m. IsExtendedKeyUsage) (λ p q r k. k)) fault h) c.put_once.ensures.refused
