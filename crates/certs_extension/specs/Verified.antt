-- What verification asks of a certificate at a moment, below an issuer or by itself, and what it then holds
-- (RFC 6487 7.2, RFC 8360 4.2, RFC 8630 2.3).
use Rattle.std.specs.Prelude.{◌≡◌, ◌≢◌, ℕ, ◌≤◌, Bool, true, List, [], ◌∷◌, ◌++◌, Some, None}
use Rattle.certs_extension.specs.resources_chain.Sets.{Run, InRuns, IsRunsOf}
use Rattle.certs_extension.specs.resources_chain.declared.choice.ResourcesChoice.TheVariants.{Inherit}
use Rattle.certs_extension.specs.resources_chain.Claims.{Lists, Kept, FitsIn}
use Rattle.certs_extension.specs.declared.forms.Role.{Role}
use Rattle.certs_extension.specs.declared.forms.Role.TheVariants.{Ta}
use Rattle.certs_extension.specs.declared.forms.VerificationTest.{VerificationTest}
use Rattle.certs_extension.specs.declared.forms.VerificationTest.TheVariants as test
use Rattle.certs_extension.specs.certs_basics.Lists.{Each}
use Rattle.certs_extension.specs.certs_basics.HandedIn.{Digests}
use Rattle.certs_extension.specs.certs_basics.Verdicts.{Verdicts}
use Rattle.certs_extension.specs.Kinds.{Kind, Ipv4, Ipv6, As}
use Rattle.certs_extension.specs.certs_basics.Keys.{KeyValue}
use Rattle.certs_extension.specs.Cert.{SignedValue, CertValue}
use Rattle.certs_extension.specs.Profiles.{Profile}

-- The signature is good for the key, and for the very octets that were read.
abbrev pub IsSignedBy : Verdicts → KeyValue → SignedValue → Type 0
IsSignedBy good key s = good key s.has_null s.message s.signature ≡ true

-- The moment lies in the validity, both ends included; the tests of that, the beginning first.
abbrev pub validity : List VerificationTest
validity = test.NotYetValid ∷ test.Expired ∷ []

-- The issuer is claimed: by its key identifier, and a URI of it is there; names and that URI aren't compared
-- (RFC 6487 4.8.3, 4.8.7).
abbrev pub issuer_claim : List VerificationTest
issuer_claim = test.AuthorityKeyMissing ∷ test.AuthorityKeyMismatch ∷ test.AiaMissing ∷ []

-- The tests of an anchor, of what is below an issuer, and of a router's certificate, in their order.
abbrev pub anchor_tests : List VerificationTest
anchor_tests =
    validity ++ test.InheritedV4 ∷ test.InheritedV6 ∷ test.InheritedAs ∷ test.BadSignature ∷ []

abbrev pub issued_tests : List VerificationTest
issued_tests = validity ++ issuer_claim ++ test.BadSignature ∷ test.OverclaimV4 ∷ test.OverclaimV6
    ∷ test.OverclaimAs ∷ []

abbrev pub router_tests : List VerificationTest
router_tests = validity ++ issuer_claim ++ test.BadSignature ∷ test.OverclaimAs ∷ []

-- The certificate passes the test at that moment, below that issuer; `held` says what the issuer holds of each kind.
abbrev pub PassesAt : Verdicts → ℕ → CertValue → (Kind → ℕ → Type 0) → CertValue → VerificationTest
    → Type 0
PassesAt good now issuer held c test.NotYetValid = c.tbs.not_before ≤ now
PassesAt good now issuer held c test.Expired = now ≤ c.tbs.not_after
PassesAt good now issuer held c test.AuthorityKeyMissing = c.tbs.authority_key_identifier ≢ None
PassesAt good now issuer held c test.AuthorityKeyMismatch =
    c.tbs.authority_key_identifier ≡ Some issuer.tbs.subject_key_identifier
PassesAt good now issuer held c test.AiaMissing = c.tbs.ca_issuer ≢ None
PassesAt good now issuer held c test.BadSignature = IsSignedBy good issuer.tbs.key c.signed
PassesAt good now issuer held c test.InheritedV4 = c.tbs.v4 ≢ Inherit
PassesAt good now issuer held c test.InheritedV6 = c.tbs.v6 ≢ Inherit
PassesAt good now issuer held c test.InheritedAs = c.tbs.asn ≢ Inherit
PassesAt good now issuer held c test.OverclaimV4 = FitsIn c.tbs.overclaim c.tbs.v4 (held Ipv4)
PassesAt good now issuer held c test.OverclaimV6 = FitsIn c.tbs.overclaim c.tbs.v6 (held Ipv6)
PassesAt good now issuer held c test.OverclaimAs = FitsIn c.tbs.overclaim c.tbs.asn (held As)

-- An anchor is its own issuer, and below nothing.
abbrev pub nothing : Kind → ℕ → Type 0
nothing kind n = ⊥

abbrev pub IsAnchorAt : Verdicts → ℕ → CertValue → Type 0
IsAnchorAt good now c = Each (PassesAt good now c nothing c) anchor_tests

abbrev pub IsIssuedAt : Verdicts → ℕ → CertValue → (Kind → ℕ → Type 0) → CertValue → Type 0
IsIssuedAt good now issuer held c = Each (PassesAt good now issuer held c) issued_tests

-- Issued, whatever it claims of resources: what is tested apart from its claim.
abbrev pub IsSignedAt : Verdicts → ℕ → CertValue → CertValue → Type 0
IsSignedAt good now issuer c =
    Each (PassesAt good now issuer nothing c) (validity ++ issuer_claim ++ test.BadSignature ∷ [])

-- A certificate that was verified, and the runs of what it holds of each kind.
pub record HolderValue : Type 0 where
  pub cert : CertValue
  pub v4 : List Run
  pub v6 : List Run
  pub asn : List Run

abbrev pub held_by : HolderValue → Kind → ℕ → Type 0
held_by h Ipv4 = InRuns h.v4
held_by h Ipv6 = InRuns h.v6
held_by h As = InRuns h.asn

-- It holds what it lists.
pub record HoldsOwn (c : CertValue) (h : HolderValue) : Type 0 where
  pub cert : h.cert ≡ c
  pub v4 : IsRunsOf (Lists c.tbs.v4) h.v4
  pub v6 : IsRunsOf (Lists c.tbs.v6) h.v6
  pub asn : IsRunsOf (Lists c.tbs.asn) h.asn

-- It holds what the issuer holds and it keeps: all where it inherits, nothing where the kind is missing.
pub record HoldsBelow (held : Kind → ℕ → Type 0) (c : CertValue) (h : HolderValue) : Type 0 where
  pub cert : h.cert ≡ c
  pub v4 : IsRunsOf (Kept c.tbs.v4 (held Ipv4)) h.v4
  pub v6 : IsRunsOf (Kept c.tbs.v6 (held Ipv6)) h.v6
  pub asn : IsRunsOf (Kept c.tbs.asn (held As)) h.asn

-- Accepted as an anchor, or as a certificate of that role below an issuer.
pub record AcceptsAnchor (d : Digests) (good : Verdicts) (strict : Bool) (now : ℕ) (c : CertValue)
    (h : HolderValue) : Type 0 where
  pub profile : Profile d strict Ta c
  pub anchor : IsAnchorAt good now c
  pub holds : HoldsOwn c h

pub record AcceptsIssued (d : Digests) (good : Verdicts) (strict : Bool) (role : Role) (now : ℕ)
    (issuer : HolderValue) (c : CertValue) (h : HolderValue) : Type 0 where
  pub profile : Profile d strict role c
  pub issued : IsIssuedAt good now issuer.cert (held_by issuer) c
  pub holds : HoldsBelow (held_by issuer) c h
