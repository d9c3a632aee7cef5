-- Keys, certificates and revocation lists, as the rules of the walk name them.
use Rattle.std.specs.Prelude.{Bool}
use Rattle.rpki_rules.specs.certs_extension.declared.forms.Role.TheVariants.{Ta, Ca, Ee}
use Rattle.rpki_rules.specs.certs_extension.Profiles.{Profile}
pub use Rattle.rpki_rules.specs.certs_basics.HandedIn.{Digests}
pub use Rattle.rpki_rules.specs.certs_basics.Verdicts.{Verdicts, Within}
pub use Rattle.rpki_rules.specs.certs_basics.Keys.{KeyValue as Key, encoded}
pub use Rattle.rpki_rules.specs.certs_extension.Cert.{CertValue as Cert}
pub use Rattle.rpki_rules.specs.certs_extension.CertText.{CertText}
pub use Rattle.rpki_rules.specs.certs_extension.CrlText.{CrlValue as Crl, CrlText, IsOn}
pub use Rattle.objects_payload.proofs.of_certs_extension.Certs.{one_cert, one_crl}
pub use Rattle.objects_payload.proofs.of_certs_extension.Roles.{ca_is_ca}

-- What inspection asks of a trust anchor's certificate, of another authority's, and of a published object's; strict is
-- PrintableString alone in names.
abbrev pub TaProfile : Digests → Bool → Cert → Type 0
TaProfile d strict c = Profile d strict Ta c

abbrev pub CaProfile : Digests → Bool → Cert → Type 0
CaProfile d strict c = Profile d strict Ca c

abbrev pub EeProfile : Digests → Bool → Cert → Type 0
EeProfile d strict c = Profile d strict Ee c
