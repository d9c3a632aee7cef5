use Rattle.certs_extension.proofs.AddLaws.{adds, refuses}
use Rattle.certs_extension.proofs.Filling.{weaker_err, weaker_ok}
use Rattle.certs_extension.proofs.claims.slots.Slots.put.Goals as goal

pub returns-clause-ok : goal.returns-clause-ok
returns-clause-ok c = weaker_ok c.put_kind.result (λ h. adds c.kind_of-kind.result _ c.args.self.now c.put_kind.new.self c.kind_of-kind.ensures h) c.put_kind.ensures.ok

pub returns-clause-none : goal.returns-clause-none
returns-clause-none c = weaker_err c.put_kind.result (λ fault h m. refuses c.kind_of-kind.result fault _ c.args.self.now c.kind_of-kind.ensures h m) c.put_kind.ensures.refused
