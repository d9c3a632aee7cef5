use Rattle.certs_extension.proofs.of_bcder_content.Taking.{on_content}
use Rattle.certs_extension.proofs.of_bcder_content.Within.{all_gives, all_stop, all_unfit}
use Rattle.certs_extension.specs.bcder_content.Words.{Gathers}
use Rattle.certs_extension.specs.Grammars.{HaveOneRsync, IsName}
use Rattle.certs_extension.specs.Seen.{Seen}
use Rattle.certs_extension.proofs.OneRsync.{none_of_names, names_of_one, one_of_names}
use Rattle.certs_extension.proofs.access.names.take_one_rsync.Goals as goal

pub returns-in_err-found : goal.returns-in_err-found
returns-in_err-found g c = record { reads = all_stop (λ uri. uri) (HaveOneRsync _) (Gathers (IsName _) Seen) _ _ _ _ c.from_residual.ensures (one_of_names _) c.in_err-found.ensures.reads }

pub returns-in-Some : goal.returns-in-Some
returns-in-Some g c =
    let all = rw c.in-Some.is at c.in_ok-found.ensures.reads in
    record { reads = all_gives (HaveOneRsync _) (Gathers (IsName _) Seen) (λ ts. names_of_one _ ts _) (one_of_names _) all }

pub returns-in-None : goal.returns-in-None
returns-in-None g c =
    let all = rw c.in-None.is at c.in_ok-found.ensures.reads in
    record { reads = on_content _ (all_unfit (HaveOneRsync _) (Gathers (IsName _) Seen) (λ ts uri p q. none_of_names _ ts uri p q) (one_of_names _) all) }
