use Rattle.objects_written.specs.bcder_content.Kept.{CapturedValue}
use Rattle.certs_cert.specs.Fresh.{IsSubjectFor}
use Rattle.objects_written.proofs.Setting.{issuer_as, named_as}
use Rattle.objects_written.proofs.build.named.Goals as goal

pub returns-in-Ok-clause-fields : goal.returns-in-Ok-clause-fields
returns-in-Ok-clause-fields g c = named_as _ _ _ _ _ c.new.result c.new.ensures.fields

pub returns-in-Ok-clause-issuer : goal.returns-in-Ok-clause-issuer
returns-in-Ok-clause-issuer g c = issuer_as (λ (n : CapturedValue). IsSubjectFor _ _ _ n) _ _ _ _ _ c.new.result c.in-Ok.ensures c.new.ensures.fields
