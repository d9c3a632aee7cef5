-- What validation of an attestation asks of certificates and revocation lists, one by one.
use Rattle.std.specs.Prelude.{◌≡◌, ◌⊎◌, ℕ, ◌≤◌, Bool, false, List, Option, Some, None}
use Rattle.certs_verify.specs.certs_basics.HandedIn.{Digests}
use Rattle.certs_verify.specs.certs_basics.Lists.{Mem}
use Rattle.certs_verify.specs.certs_basics.Verdicts.{Verdicts}
use Rattle.certs_verify.specs.certs_extension.Cert.{CertValue}
use Rattle.certs_verify.specs.certs_extension.CrlText.{CrlValue, IsOn, IsStale}
use Rattle.certs_verify.specs.certs_extension.Profiles.{Profile}
use Rattle.certs_verify.specs.certs_extension.Verified.{IsAnchorAt, IsSignedAt, IsSignedBy}
use Rattle.certs_verify.specs.certs_extension.declared.forms.Role.TheVariants.{Ca, DetachedEe, Ta}
use Rattle.objects_rta_valid.specs.Nodes.{Node, IsSelfSigned}
use Rattle.objects_rta_valid.specs.Places.{Stands}

-- What paths know of a certificate: the identifiers of its key and of its issuer's, and whether it is an authority's
-- (RFC 6487 4.8.1 to 4.8.3).
abbrev pub is_authority : Option Bool → Bool
is_authority None = false
is_authority (Some ca) = ca

abbrev pub node_of : CertValue → Node
node_of c = record {
  subject = c.tbs.subject_key_identifier;
  authority = c.tbs.authority_key_identifier;
  issues = is_authority c.tbs.basic_ca;
}

-- It names no issuer, or itself.
abbrev pub NamesItself : CertValue → Type 0
NamesItself c = IsSelfSigned (node_of c)

-- The moment lies in its validity, both ends included (RFC 6487 7.2).
abbrev pub IsCurrent : ℕ → CertValue → Type 0
IsCurrent now c = (c.tbs.not_before ≤ now) × (now ≤ c.tbs.not_after)

-- The form of a signer's certificate, the first of a path: of an object that stands apart from a repository.
abbrev pub HasSignerForm : Digests → Bool → CertValue → Type 0
HasSignerForm d strict c = Profile d strict DetachedEe c

-- The form of each other one: a trust anchor's where it names itself, else an authority's.
abbrev pub HasIssuerForm : Digests → Bool → CertValue → Type 0
HasIssuerForm d strict c =
    (NamesItself c × Profile d strict Ta c) ⊎ ((NamesItself c → ⊥) × Profile d strict Ca c)

-- One that names itself is an anchor by itself: signed by its own key, and it inherits nothing.
abbrev pub IsOwnAnchor : Verdicts → ℕ → CertValue → Type 0
IsOwnAnchor good now c = NamesItself c → IsAnchorAt good now c

-- Of two neighbours the lower is signed by the upper: it claims it, and the signature is good by its key.
abbrev pub ArePairSigned : Verdicts → ℕ → List CertValue → ℕ × ℕ → Type 0
ArePairSigned good now certs q =
    Stands certs q.0 (λ c. Stands certs q.1 (λ p. IsSignedAt good now p c))

-- The list is the issuer's by its authority key identifier, signed by the issuer's key, and not stale (RFC 6487 5).
pub record IsGoodList (good : Verdicts) (now : ℕ) (p : CertValue) (crl : CrlValue) : Type 0 where
  pub of_issuer : crl.tbs.authority_key_identifier ≡ p.tbs.subject_key_identifier
  pub signed : IsSignedBy good p.tbs.key crl.signed
  pub current : IsStale crl now → ⊥

-- Some carried list is a good one of the issuer's, and the certificate isn't on it.
pub record IsUnrevoked (good : Verdicts) (now : ℕ) (crls : List CrlValue) (p c : CertValue)
    : Type 0 where
  pub crl : CrlValue
  pub carried : Mem crls crl
  pub good_list : IsGoodList good now p crl
  pub unlisted : IsOn crl c.tbs.serial → ⊥

abbrev pub IsPairUnrevoked : Verdicts → ℕ → List CertValue → List CrlValue → ℕ × ℕ → Type 0
IsPairUnrevoked good now certs crls q =
    Stands certs q.0 (λ c. Stands certs q.1 (λ p. IsUnrevoked good now crls p c))

-- The list is of an issuer that follows another certificate on a path.
pub record IsUsed (certs : List CertValue) (ps : List (ℕ × ℕ)) (crl : CrlValue) : Type 0 where
  pub lower : ℕ
  pub upper : ℕ
  pub neighbours : Mem ps (lower, upper)
  pub of_issuer : Stands certs upper
      (λ p. crl.tbs.authority_key_identifier ≡ p.tbs.subject_key_identifier)
