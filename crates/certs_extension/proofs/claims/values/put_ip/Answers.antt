use Rattle.certs_extension.specs.Filling.{Under}
use Rattle.certs_extension.specs.Slots.{AreFamilies}
use Rattle.certs_extension.specs.Raw.{extension_value}
use Rattle.certs_extension.specs.Extensions.{May}
use Rattle.certs_extension.proofs.Filling.{cannot_fill, fills, in_der, weaker_err, weaker_ok}
use Rattle.certs_extension.proofs.claims.values.put_ip.Goals as goal

pub returns-clause-ok : goal.returns-clause-ok
returns-clause-ok c = weaker_ok c.put_once.result (λ h. fills May (extension_value c.args.extension) c.args.slot.now (in_der (λ m. Under c.args.policy (AreFamilies m)) (λ p q r k. k)) h) c.put_once.ensures.ok

pub returns-clause-refused : goal.returns-clause-refused
returns-clause-refused c = weaker_err c.put_once.result (λ fault h. cannot_fill May (extension_value c.args.extension) c.args.slot.now (in_der (λ m. Under c.args.policy (AreFamilies m)) (λ p q r k. k)) fault h) c.put_once.ensures.refused
