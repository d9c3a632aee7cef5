-- What inspection asks of a certificate by its role (RFC 6487 4, RFC 8209 3.1): tests, each told apart, in their order.
use Rattle.std.specs.Prelude.{◌≡◌, ◌≢◌, ◌⊎◌, ℕ, Bool, true, false, List, [], ◌∷◌, ◌++◌, Option, Some, None}
use Rattle.certs_extension.specs.resources_chain.declared.choice.ResourcesChoice.TheVariants.{Missing, Inherit}
use Rattle.certs_extension.specs.declared.forms.KeyUsage.{KeyUsage}
use Rattle.certs_extension.specs.declared.forms.KeyUsage.TheVariants.{Ca as ca_usage, Ee as ee_usage}
use Rattle.certs_extension.specs.certs_basics.declared.PublicKeyFormat.{PublicKeyFormat}
use Rattle.certs_extension.specs.certs_basics.declared.PublicKeyFormat.TheVariants.{Rsa, Ecdsa}
use Rattle.certs_extension.specs.declared.forms.Role.{Role}
use Rattle.certs_extension.specs.declared.forms.Role.TheVariants.{Ta, Ca, Ee, DetachedEe, Router}
use Rattle.certs_extension.specs.declared.forms.InspectionError.{InspectionError}
use Rattle.certs_extension.specs.declared.forms.InspectionError.TheVariants as test
use Rattle.certs_extension.specs.certs_basics.Lists.{Mem, Each, FirstFailing}
use Rattle.certs_extension.specs.certs_basics.HandedIn.{Digests}
use Rattle.certs_extension.specs.certs_basics.Keys.{identifier}
use Rattle.certs_extension.specs.certs_basics.Names.{IsRpkiName}
use Rattle.certs_extension.specs.certs_basics.Paths.{LiesIn}
use Rattle.certs_extension.specs.Cert.{CertValue, no_access}
use Rattle.certs_extension.specs.certs_basics.Identifiers as id

-- The tests of all but router certificates (RFC 6487 4.3 to 4.7, 4.8.2, 4.8.5).
abbrev pub basics : List InspectionError
basics = test.AlgorithmMismatch ∷ test.BadIssuer ∷ test.BadSubject ∷ test.KeyAlgorithm
    ∷ test.KeyIdMismatch ∷ test.ExtendedKeyUsagePresent ∷ []

-- What makes an authority (RFC 6487 4.8.1, 4.8.4, 4.8.8.1).
abbrev pub authority : List InspectionError
authority = test.BasicConstraintsMissing ∷ test.NotCa ∷ test.WrongKeyUsage ∷ test.RepositoryMissing
    ∷ test.ManifestMissing ∷ test.ManifestNotChild ∷ test.SignedObjectPresent ∷ []

-- The tests of a role, in their order.
abbrev pub tests : Role → List InspectionError
tests Ta = basics ++ authority ++ test.AuthorityKeyMismatch ∷ test.CrlPresent ∷ test.AiaPresent ∷ []
tests Ca = basics ++ authority ++ test.CrlMissing ∷ []
tests Ee = basics ++ test.CrlMissing ∷ test.BasicConstraintsPresent ∷ test.WrongKeyUsage
    ∷ test.RepositoryPresent ∷ test.ManifestPresent ∷ test.SignedObjectMissing ∷ []
tests DetachedEe = basics ++ test.CrlMissing ∷ test.BasicConstraintsPresent ∷ test.WrongKeyUsage
    ∷ test.RepositoryPresent ∷ test.ManifestPresent ∷ []
tests Router = test.AlgorithmMismatch ∷ test.BadIssuer ∷ test.BadSubject ∷ test.KeyAlgorithm
    ∷ test.BasicConstraintsPresent ∷ test.KeyIdMismatch ∷ test.WrongKeyUsage
    ∷ test.ExtendedKeyUsageMissing ∷ test.NotRouterUsage ∷ test.CrlMissing ∷ test.SiaPresent
    ∷ test.IpResourcesPresent ∷ test.AsResourcesMissing ∷ test.AsResourcesInherited ∷ []

-- What the certificate's key is for (RFC 6487 4.8.4), and its format (RFC 7935 3, RFC 8608 3.1).
abbrev pub usage_for : Role → KeyUsage
usage_for Ta = ca_usage
usage_for Ca = ca_usage
usage_for Ee = ee_usage
usage_for DetachedEe = ee_usage
usage_for Router = ee_usage

abbrev pub format_for : Role → PublicKeyFormat
format_for Ta = Rsa
format_for Ca = Rsa
format_for Ee = Rsa
format_for DetachedEe = Rsa
format_for Router = Ecdsa

-- A router's subject may have UTF8Strings, strict or not (RFC 8209 3.1.1).
abbrev pub strict_for : Role → Bool → Bool
strict_for Ta strict = strict
strict_for Ca strict = strict
strict_for Ee strict = strict
strict_for DetachedEe strict = strict
strict_for Router strict = false

-- Two URIs that are both there, and the first lies in the second.
abbrev pub LiesThere : Option (List ℕ) → Option (List ℕ) → Type 0
LiesThere (Some manifest) (Some repository) = LiesIn manifest repository
LiesThere (Some manifest) None = ⊥
LiesThere None repository = ⊥

-- The purposes, where there are any.
abbrev pub purposes : Option (List (List ℕ)) → List (List ℕ)
purposes None = []
purposes (Some all) = all

-- The certificate passes the test, as one of that role.
abbrev pub Passes : Digests → Bool → Role → CertValue → InspectionError → Type 0
Passes d strict role c test.AlgorithmMismatch = c.tbs.has_null ≡ c.signed.has_null
Passes d strict role c test.BadIssuer = IsRpkiName strict c.tbs.issuer
Passes d strict role c test.BadSubject = IsRpkiName (strict_for role strict) c.tbs.subject
Passes d strict role c test.KeyAlgorithm = c.tbs.key.format ≡ format_for role
Passes d strict role c test.KeyIdMismatch = c.tbs.subject_key_identifier ≡ identifier d c.tbs.key
Passes d strict role c test.AuthorityKeyMismatch =
    (c.tbs.authority_key_identifier ≡ None)
    ⊎ (c.tbs.authority_key_identifier ≡ Some c.tbs.subject_key_identifier)
Passes d strict role c test.ExtendedKeyUsagePresent = c.tbs.extended_key_usage ≡ None
Passes d strict role c test.ExtendedKeyUsageMissing = c.tbs.extended_key_usage ≢ None
Passes d strict role c test.NotRouterUsage =
    Mem (purposes c.tbs.extended_key_usage) id.bgpsec_router
Passes d strict role c test.CrlMissing = c.tbs.crl_uri ≢ None
Passes d strict role c test.CrlPresent = c.tbs.crl_uri ≡ None
Passes d strict role c test.AiaPresent = c.tbs.ca_issuer ≡ None
Passes d strict role c test.BasicConstraintsPresent = c.tbs.basic_ca ≡ None
Passes d strict role c test.BasicConstraintsMissing = c.tbs.basic_ca ≢ None
Passes d strict role c test.NotCa = c.tbs.basic_ca ≡ Some true
Passes d strict role c test.WrongKeyUsage = c.tbs.key_usage ≡ usage_for role
Passes d strict role c test.RepositoryMissing = c.tbs.access.repository ≢ None
Passes d strict role c test.RepositoryPresent = c.tbs.access.repository ≡ None
Passes d strict role c test.ManifestMissing = c.tbs.access.manifest ≢ None
Passes d strict role c test.ManifestPresent = c.tbs.access.manifest ≡ None
Passes d strict role c test.ManifestNotChild =
    LiesThere c.tbs.access.manifest c.tbs.access.repository
Passes d strict role c test.SignedObjectMissing = c.tbs.access.object ≢ None
Passes d strict role c test.SignedObjectPresent = c.tbs.access.object ≡ None
Passes d strict role c test.SiaPresent = c.tbs.access ≡ no_access
Passes d strict role c test.IpResourcesPresent = (c.tbs.v4 ≡ Missing) × (c.tbs.v6 ≡ Missing)
Passes d strict role c test.AsResourcesMissing = c.tbs.asn ≢ Missing
Passes d strict role c test.AsResourcesInherited = c.tbs.asn ≢ Inherit

-- All tests of the role are passed.
abbrev pub Profile : Digests → Bool → Role → CertValue → Type 0
Profile d strict role c = Each (Passes d strict role c) (tests role)

-- The first test that isn't.
abbrev pub FailsFirst : Digests → Bool → Role → CertValue → InspectionError → Type 0
FailsFirst d strict role c = FirstFailing (Passes d strict role c) (tests role)
