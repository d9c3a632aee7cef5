use Rattle.certs_extension.specs.bcder_content.Words.{Gathers}
use Rattle.certs_extension.proofs.of_bcder_content.Taking.{on_content}
use Rattle.certs_extension.proofs.of_bcder_content.Within.{all_gives, all_stop, all_unfit}
use Rattle.certs_extension.specs.Access.{AreAccess, IsEntry}
use Rattle.certs_extension.specs.Found.{SaysSoFar}
use Rattle.certs_extension.proofs.Descriptions.{told, tells, tells_nothing}
use Rattle.certs_extension.proofs.access.subject.take_some.Goals as goal

pub returns-in_err-found : goal.returns-in_err-found
returns-in_err-found g c = record { reads = all_stop (λ a. a) (Gathers (IsEntry _) AreAccess) (Gathers (IsEntry _) SaysSoFar) _ _ _ _ c.from_residual.ensures (told _) c.in_err-found.ensures.reads }

pub returns-then-not-is_some : goal.returns-then-not-is_some
returns-then-not-is_some g c = record { reads = on_content _ (all_unfit (Gathers (IsEntry _) AreAccess) (Gathers (IsEntry _) SaysSoFar) (λ ts a p q. tells_nothing _ ts a _ _ c.if-not-is_some.true p q) (told _) c.in_ok-found.ensures.reads) }

pub returns : goal.returns
returns g c = record { reads = all_gives (Gathers (IsEntry _) AreAccess) (Gathers (IsEntry _) SaysSoFar) (λ ts. tells _ ts _ _ c.if-not-is_some.false) (told _) c.in_ok-found.ensures.reads }
