-- What is wrong, by the tests that certificates, objects and locators share: a word that stays, for
-- programs, and words for people.
use Rattle.std.specs.Prelude.{ℕ, Bool, true, false, List, ◌++◌, codes}
use Rattle.rpki_rules.specs.certs_extension.declared.forms.InspectionError.{InspectionError}
use Rattle.rpki_rules.specs.certs_extension.declared.forms.InspectionError.TheVariants as form
use Rattle.rpki_rules.specs.certs_extension.declared.forms.VerificationTest.{VerificationTest}
use Rattle.rpki_rules.specs.certs_extension.declared.forms.VerificationTest.TheVariants as test
use Rattle.objects_payload.specs.declared.locator.error.ReadError.{ReadError}
use Rattle.objects_payload.specs.declared.locator.error.ReadError.TheVariants as text
use Rattle.rpki_rules.specs.declared.reason.certs.CertTest.{CertTest}
use Rattle.rpki_rules.specs.declared.reason.certs.CertTest.TheVariants.{Inspection, Verification}
use Rattle.rpki_rules.specs.declared.reason.certs.ContentTest.{ContentTest}
use Rattle.rpki_rules.specs.declared.reason.certs.ContentTest.TheVariants.{Digest, SigningTime, Signature}
use Rattle.rpki_rules.specs.declared.reason.files.RevocationTest.{RevocationTest}
use Rattle.rpki_rules.specs.declared.reason.files.RevocationTest.TheVariants.{NamesList, SameList, NotRevoked}

-- The first for programs, the second for people.
abbrev pub either : Bool → List ℕ → List ℕ → List ℕ
either true word words = word
either false word words = words

-- What is wrong with a locator's text.
abbrev pub text_fault : Bool → ReadError → List ℕ
text_fault j text.Io = either j (codes "io") (codes "the text can't be read to its end")
text_fault j text.UnexpectedEof = either j (codes "unexpected-eof") (codes "unexpected end of file")
text_fault j text.BadUri = either j (codes "bad-uri") (codes "bad trust anchor URI")
text_fault j text.BadKeyInfoEncoding =
    either j (codes "bad-key-info-encoding") (codes "bad key info encoding")
text_fault j text.BadKeyInfo = either j (codes "bad-key-info") (codes "bad key info")
text_fault j text.Memory = either j (codes "memory") (codes "out of memory")

-- What is wrong with a certificate's form, in the words of the error itself,
abbrev pub form_fault : Bool → InspectionError → List ℕ
form_fault j form.AlgorithmMismatch =
    either j (codes "algorithm-mismatch") (codes "signature algorithm mismatch in certificate")
form_fault j form.BadIssuer = either j (codes "bad-issuer") (codes "invalid issuer")
form_fault j form.BadSubject = either j (codes "bad-subject") (codes "invalid subject")
form_fault j form.KeyAlgorithm =
    either j (codes "key-algorithm")
    (codes "public key algorithm not allowed for RPKI certificates")
form_fault j form.KeyIdMismatch =
    either j (codes "key-id-mismatch")
    (codes "Subject Key Identifier extension doesn't match public key")
form_fault j form.AuthorityKeyMismatch =
    either j (codes "authority-key-mismatch")
    (codes "Authority Key Identifier doesn't match Subject Key Identifier")
form_fault j form.ExtendedKeyUsagePresent =
    either j (codes "extended-key-usage-present")
    (codes "Extended Key Usage extension not allowed in RPKI certificates")
form_fault j form.ExtendedKeyUsageMissing =
    either j (codes "extended-key-usage-missing")
    (codes "missing Extended Key Usage extension in router certificate")
form_fault j form.NotRouterUsage =
    either j (codes "not-router-usage")
    (codes "Extended Key Usage extension is missing id-kp-bgpsec-router usage "
    ++ codes "in router certificate")
form_fault j form.CrlMissing =
    either j (codes "crl-missing")
    (codes "missing CRL Distribution Points extension in certificate")
form_fault j form.CrlPresent =
    either j (codes "crl-present")
    (codes "CRL Distribution Points extension not allowed in trust anchor certificate")
form_fault j form.AiaPresent =
    either j (codes "aia-present")
    (codes "Authority Information Access extension not allowed in trust anchor certificate")
form_fault j form.BasicConstraintsPresent =
    either j (codes "basic-constraints-present")
    (codes "Basic Constraints extension not allowed in end entity certificate")
form_fault j form.BasicConstraintsMissing =
    either j (codes "basic-constraints-missing")
    (codes "missing Basic Constraints extension in CA certificate")
form_fault j form.NotCa =
    either j (codes "not-ca") (codes "cA flag in Basic Constraints extension set to false")
form_fault j form.WrongKeyUsage =
    either j (codes "wrong-key-usage") (codes "invalid Key Usage extension in certificate")
form_fault j form.RepositoryMissing =
    either j (codes "repository-missing")
    (codes "missing id-ad-caRepository SIA instance in CA certificate")
form_fault j form.RepositoryPresent =
    either j (codes "repository-present")
    (codes "id-ad-caRepository SIA instance not allowed in end entity certificate")
form_fault j form.ManifestMissing =
    either j (codes "manifest-missing")
    (codes "missing id-ad-rpkiManifest SIA instance in CA certificate")
form_fault j form.ManifestPresent =
    either j (codes "manifest-present")
    (codes "id-ad-rpkiManifest SIA instance not allowed in end entity certificate")
form_fault j form.ManifestNotChild =
    either j (codes "manifest-not-child")
    (codes "id-ad-rpkiManifest is not a child of id-ad-caRepository")
form_fault j form.SignedObjectMissing =
    either j (codes "signed-object-missing")
    (codes "missing id-ad-signedObject SIA instance in signed object end entity certificate")
form_fault j form.SignedObjectPresent =
    either j (codes "signed-object-present")
    (codes "id-ad-signedObject SIA instance not allowed in CA certificate")
form_fault j form.SiaPresent =
    either j (codes "sia-present")
    (codes "Subject Information Access extension not allowed in router certificate")
form_fault j form.IpResourcesPresent =
    either j (codes "ip-resources-present")
    (codes "IP Resources extension not allowed in router certificate")
form_fault j form.AsResourcesMissing =
    either j (codes "as-resources-missing")
    (codes "missing AS Resources extension in router certificate")
form_fault j form.AsResourcesInherited =
    either j (codes "as-resources-inherited")
    (codes "inherited AS Resources in router certificate")

-- and with what its issuer and the moment say.
abbrev pub issue_fault : Bool → VerificationTest → List ℕ
issue_fault j test.NotYetValid = either j (codes "not-yet-valid") (codes "not yet valid")
issue_fault j test.Expired = either j (codes "expired") (codes "expired")
issue_fault j test.AuthorityKeyMissing =
    either j (codes "authority-key-missing") (codes "missing authority key identifier")
issue_fault j test.AuthorityKeyMismatch =
    either j (codes "authority-key-mismatch") (codes "authority key identifier of another key")
issue_fault j test.AiaMissing = either j (codes "aia-missing") (codes "missing URI of the issuer")
issue_fault j test.BadSignature = either j (codes "bad-signature") (codes "bad signature")
issue_fault j test.InheritedV4 =
    either j (codes "inherited-ipv4") (codes "inherited IPv4 addresses")
issue_fault j test.InheritedV6 =
    either j (codes "inherited-ipv6") (codes "inherited IPv6 addresses")
issue_fault j test.InheritedAs = either j (codes "inherited-as") (codes "inherited AS numbers")
issue_fault j test.OverclaimV4 =
    either j (codes "overclaim-ipv4") (codes "overclaimed IPv4 addresses")
issue_fault j test.OverclaimV6 =
    either j (codes "overclaim-ipv6") (codes "overclaimed IPv6 addresses")
issue_fault j test.OverclaimAs = either j (codes "overclaim-as") (codes "overclaimed AS numbers")

abbrev pub cert_fault : Bool → CertTest → List ℕ
cert_fault j (Inspection e) = form_fault j e
cert_fault j (Verification t) = issue_fault j t

-- What is wrong with a signed content,
abbrev pub content_fault : Bool → ContentTest → List ℕ
content_fault j Digest =
    either j (codes "message-digest") (codes "message digest of another content")
content_fault j SigningTime =
    either j (codes "signing-time") (codes "signed after the certificate expired")
content_fault j Signature = either j (codes "bad-signature") (codes "bad signature")

-- and with what says whether a certificate is revoked.
abbrev pub revocation_fault : Bool → RevocationTest → List ℕ
revocation_fault j NamesList =
    either j (codes "list-unnamed") (codes "names no revocation list")
revocation_fault j SameList =
    either j (codes "other-list") (codes "names another revocation list")
revocation_fault j NotRevoked = either j (codes "revoked") (codes "revoked")
