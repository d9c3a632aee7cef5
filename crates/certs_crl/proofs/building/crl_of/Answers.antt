use Rattle.std.proofs.Common.{sym, subst}
use Rattle.certs_crl.specs.bcder_tree.declared.mode.Mode.TheVariants.{Der}
use Rattle.certs_x509.specs.certs_extension.CrlText.{CrlValue}
use Rattle.certs_crl.specs.Fields.{as_list}
use Rattle.certs_crl.specs.Written.{WritesTbsList}
use Rattle.certs_crl.proofs.Writing.{list_stands}
use Rattle.certs_crl.proofs.building.crl_of.Goals as goal

pub returns-in-Ok-clause-message : goal.returns-in-Ok-clause-message
returns-in-Ok-clause-message g c =
    subst (λ (k : CrlValue). ∥ WritesTbsList (as_list c.args.tbs) Der k.signed.message ∥₁) (sym c.from_parts.ensures)
    ∣ list_stands (as_list c.args.tbs) c.in-Ok.signed.message.octets c.in-Ok.ensures.message ∣₁
