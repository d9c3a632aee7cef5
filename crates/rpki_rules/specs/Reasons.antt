-- Why a line is refused: the first condition that isn't met. Conditions are tests in their order,
-- as the program asks them; a reason is the first that fails, with what it speaks of. Here are the
-- tests that locators, points and files share.
use Rattle.std.specs.Prelude.{◌≡◌, ℕ, true, List, [], ◌∷◌, ◌++◌, map}
use Rattle.rpki_rules.specs.resources_chain.Sets.{Run}
use Rattle.rpki_rules.specs.resources_chain.Claims.{FitsIn, Unfit}
use Rattle.rpki_rules.specs.certs_extension.declared.forms.Role.{Role}
use Rattle.rpki_rules.specs.certs_extension.declared.forms.VerificationTest.{VerificationTest}
use Rattle.rpki_rules.specs.certs_extension.declared.forms.VerificationTest.TheVariants.{BadSignature}
use Rattle.rpki_rules.specs.certs_extension.Profiles.{tests, Passes}
use Rattle.rpki_rules.specs.certs_extension.Verified.{validity, issuer_claim, PassesAt, nothing}
use Rattle.rpki_rules.specs.Certs.{Cert, Verdicts}
use Rattle.objects_payload.specs.ObjectText.{IsNotAfter, IsSignedMessage}
use Rattle.rpki_rules.specs.Objects.{Object}
use Rattle.rpki_rules.specs.Kinds.{Kind, Ipv4, Ipv6, As, claim}
use Rattle.rpki_rules.specs.World.{World}
-- A test of a certificate: of its form, or of what its issuer and the moment say.
pub use Rattle.rpki_rules.specs.declared.reason.certs.CertTest.{CertTest}
pub use Rattle.rpki_rules.specs.declared.reason.certs.CertTest.TheVariants.{Inspection, Verification}
-- A test of a signed object: its digest, its signing time, its signature (RFC 5652 5.4, 5.6;
-- RFC 6488 3).
pub use Rattle.rpki_rules.specs.declared.reason.certs.ContentTest.{ContentTest}
pub use Rattle.rpki_rules.specs.declared.reason.certs.ContentTest.TheVariants.{Digest, SigningTime, Signature}

-- Validity, the claim to the issuer, and the signature (RFC 6487 7.2); what is claimed of numbers
-- is tested apart.
abbrev pub signature_tests : List VerificationTest
signature_tests = validity ++ issuer_claim ++ BadSignature ∷ []

-- The tests of a certificate of that role below an authority: its form first (RFC 6487 4).
abbrev pub cert_tests : Role → List CertTest
cert_tests role = map Inspection (tests role) ++ map Verification signature_tests

abbrev pub PassesCert : World → Role → Cert → Cert → CertTest → Type 0
PassesCert w role issuer c (Inspection t) = Passes w.digests true role c t
PassesCert w role issuer c (Verification t) = PassesAt w.good w.moment issuer nothing c t

-- The tests of a signed object.
abbrev pub content_tests : List ContentTest
content_tests = Digest ∷ SigningTime ∷ Signature ∷ []

-- The signature is good by the certificate's key, over the attributes.
pub record HasGoodSignature (v : Verdicts) (o : Object) : Type 0 where
  pub message : List ℕ
  pub message_is : IsSignedMessage o.signer message
  pub good : v o.cert.tbs.key o.signer.has_null message o.signer.signature ≡ true

abbrev pub PassesContent : World → Object → ContentTest → Type 0
PassesContent w o Digest = o.signer.digest ≡ w.digests.sha256 o.content
PassesContent w o SigningTime = IsNotAfter o.signer.signing_time o.cert.tbs.not_after
PassesContent w o Signature = HasGoodSignature w.good o

-- The kinds, in the order in which claims are tested (RFC 6487 7.2, RFC 8360 4.2). `held` says what
-- is held.
abbrev pub kinds : List Kind
kinds = Ipv4 ∷ Ipv6 ∷ As ∷ []

abbrev pub FitsKind : (Kind → ℕ → Type 0) → Cert → Kind → Type 0
FitsKind held c k = FitsIn c.tbs.overclaim (claim c k) (held k)

-- Of a kind that doesn't fit these are the numbers that are listed and aren't held.
abbrev pub AreUnheld : (Kind → ℕ → Type 0) → Cert → Kind → List Run → Type 0
AreUnheld held c k = Unfit c.tbs.overclaim (claim c k) (held k)
