-- What is asked of signatures, certificate by certificate: each is asked for once.
use Rattle.std.specs.Prelude.{◌≡◌, ◌⊎◌, ◌++◌, ℕ, true, List, [], ◌∷◌, Option, Some, None, slice_get}
use Rattle.std.specs.List.{flat_map}
use Rattle.certs_verify.specs.certs_basics.Lists.{Mem}
use Rattle.certs_verify.specs.certs_basics.Verdicts.{Verdicts}
use Rattle.certs_verify.specs.certs_extension.Cert.{CertValue}
use Rattle.certs_verify.specs.certs_extension.CrlText.{CrlValue, IsOn}
use Rattle.certs_verify.specs.certs_extension.Verified.{IsAnchorAt, IsSignedAt}
use Rattle.objects_rta_valid.specs.Places.{Stands}
use Rattle.objects_rta_valid.specs.Certs.{IsGoodList, NamesItself}

-- A certificate that names itself is an anchor; any other is signed by the one at the place behind it, if there is one.
abbrev pub IsVouched : Verdicts → ℕ → List CertValue → CertValue → Option ℕ → Type 0
IsVouched good now certs c link =
    (NamesItself c → IsAnchorAt good now c)
    × ((NamesItself c → ⊥) → (next : ℕ) → link ≡ Some next
    → Stands certs next (λ p. IsSignedAt good now p c))

-- Some of the list is P.
pub record Has {X : Type 0} (P : X → Type 0) (xs : List X) : Type 0 where
  pub one : X
  pub among : Mem xs one
  pub is : P one

-- A good list of some carried issuer.
abbrev pub IsGoodCarried : Verdicts → ℕ → List CertValue → CrlValue → Type 0
IsGoodCarried good now certs crl = Has (λ p. IsGoodList good now p crl) certs

-- The list with its serial numbers kept aside.
abbrev pub kept_aside : CrlValue → CrlValue
kept_aside crl = record crl { caches = true }

-- A copy of a list that is carried and good.
abbrev pub IsGoodCopy : Verdicts → ℕ → List CertValue → List CrlValue → CrlValue → Type 0
IsGoodCopy good now certs crls copy =
    Has (λ crl. (copy ≡ kept_aside crl) × IsGoodCarried good now certs crl) crls

-- Of the lists just the good ones, copied.
pub record AreGoodOf (good : Verdicts) (now : ℕ) (certs : List CertValue)
    (crls lists : List CrlValue) : Type 0 where
  pub good_ones : (copy : CrlValue) → Mem lists copy → IsGoodCopy good now certs crls copy
  pub all :
      (crl : CrlValue) → Mem crls crl → IsGoodCarried good now certs crl
      → Mem lists (kept_aside crl)

-- The identifier of a certificate's key, and of the key of a list's issuer.
abbrev pub subject_of : CertValue → List ℕ
subject_of c = c.tbs.subject_key_identifier

abbrev pub authority_of : CrlValue → List ℕ
authority_of crl = crl.tbs.authority_key_identifier

-- The identifier of the key of the certificate at a place, as a list of one; and of the upper certificate of each pair.
abbrev pub key_list : Option CertValue → List (List ℕ)
key_list None = []
key_list (Some c) = subject_of c ∷ []

abbrev pub upper_key : List CertValue → ℕ → List (List ℕ)
upper_key certs place = key_list (slice_get certs place)

abbrev pub upper_keys : List CertValue → List (ℕ × ℕ) → List (List ℕ)
upper_keys certs = flat_map (λ (q : ℕ × ℕ). upper_key certs q.1)

-- A list serves a certificate below an issuer: it is the issuer's, and lacks the certificate.
abbrev pub Serves : CertValue → CertValue → CrlValue → Type 0
Serves p c crl =
    (crl.tbs.authority_key_identifier ≡ p.tbs.subject_key_identifier) × (IsOn crl c.tbs.serial → ⊥)

-- What P holds of is put behind the others; else they stay as they are.
abbrev pub IsKept : {X : Type 0} → Type 0 → X → List X → List X → Type 0
IsKept P x old new = (P × (new ≡ old ++ x ∷ [])) ⊎ ((P → ⊥) × (new ≡ old))
