-- When a resource tagged attestation is valid (draft-ietf-sidrops-rpki-rta; this project's profile): tests, each told apart,
-- in their order. A path is a list of places of carried certificates, so that one that is carried twice is two.
use Rattle.std.specs.Prelude.{ℕ, Bool, List, [], ◌∷◌, map, length}
use Rattle.std.specs.List.{AllZip}
use Rattle.certs_verify.specs.certs_basics.HandedIn.{Digests}
use Rattle.certs_verify.specs.certs_basics.Lists.{Each, FirstFailing}
use Rattle.certs_verify.specs.certs_basics.Verdicts.{Verdicts}
use Rattle.certs_verify.specs.certs_extension.Cert.{CertValue}
use Rattle.objects_rta_valid.specs.Keys.{AreSame}
use Rattle.objects_rta_valid.specs.Nodes.{Node}
use Rattle.objects_rta_valid.specs.Paths.{AreAllOn}
use Rattle.objects_rta.specs.objects_payload.ObjectText.{Object, Signer, Sound}
use Rattle.objects_rta.specs.AttestationParts.{RtaValue}
use Rattle.objects_rta.specs.MultiText.{Multi}
use Rattle.objects_rta_valid.specs.declared.errors.RtaTest.{RtaTest}
use Rattle.objects_rta_valid.specs.declared.errors.RtaTest.TheVariants as test
use Rattle.objects_rta_valid.specs.Apart.{AreOnly}
use Rattle.objects_rta_valid.specs.Certs.{ArePairSigned, HasIssuerForm, HasSignerForm, IsCurrent, IsOwnAnchor, IsPairUnrevoked, IsUsed, node_of}
use Rattle.objects_rta_valid.specs.Places.{Stands, firsts, pairs}

-- The identifiers of its signers, and what paths know of the certificates that it carries.
abbrev pub sids : RtaValue → List (List ℕ)
sids r = map (λ (s : Signer). s.sid) r.signed.signers

abbrev pub nodes : RtaValue → List Node
nodes r = map node_of r.signed.certs

-- They are the only paths of its signers, in their order.
abbrev pub AreItsPaths : RtaValue → List (List ℕ) → Type 0
AreItsPaths r paths = AreOnly (nodes r) (sids r) paths

-- P holds of the only paths.
abbrev pub OfPaths : RtaValue → (List (List ℕ) → Type 0) → Type 0
OfPaths r P = (paths : List (List ℕ)) → AreItsPaths r paths → P paths

-- The content with one signer and a certificate; and its tests, with the certificate at the place (RFC 5652 5.4; RFC 6488 3).
abbrev pub object_of : Multi → CertValue → Signer → Object
object_of o c s =
    record { content_type = o.content_type; content = o.content; cert = c; signer = s }

abbrev pub IsSoundAt : Digests → Verdicts → Multi → Signer → ℕ → Type 0
IsSoundAt d good o s place = Stands o.certs place (λ c. Sound d good (object_of o c s))

-- Forms along paths.
abbrev pub HaveForms : Digests → Bool → List CertValue → List (List ℕ) → Type 0
HaveForms d strict certs paths =
    Each (λ place. Stands certs place (HasSignerForm d strict)) (firsts paths)
    × Each (λ q. Stands certs q.1 (HasIssuerForm d strict)) (pairs paths)

-- The attestation passes the test.
abbrev pub Passes : Digests → Verdicts → Bool → ℕ → RtaValue → RtaTest → Type 0
Passes d good strict now r test.Keys = AreSame (sids r) r.content.keys
Passes d good strict now r test.Paths = (paths : List (List ℕ)) × AreItsPaths r paths
Passes d good strict now r test.Certificates =
    OfPaths r (λ paths. AreAllOn paths (length r.signed.certs))
Passes d good strict now r test.Content =
    OfPaths r (λ paths. AllZip (IsSoundAt d good r.signed) r.signed.signers (firsts paths))
Passes d good strict now r test.Forms = OfPaths r (HaveForms d strict r.signed.certs)
Passes d good strict now r test.Validity = Each (IsCurrent now) r.signed.certs
Passes d good strict now r test.Signatures =
    Each (IsOwnAnchor good now) r.signed.certs
    × OfPaths r (λ paths. Each (ArePairSigned good now r.signed.certs) (pairs paths))
Passes d good strict now r test.Lists =
    OfPaths r (λ paths. Each (IsUsed r.signed.certs (pairs paths)) r.signed.crls)
Passes d good strict now r test.Revocation =
    OfPaths r (λ paths. Each (IsPairUnrevoked good now r.signed.certs r.signed.crls) (pairs paths))

abbrev pub path_tests : List RtaTest
path_tests = test.Keys ∷ test.Paths ∷ test.Certificates ∷ []

abbrev pub rta_tests : List RtaTest
rta_tests = test.Keys ∷ test.Paths ∷ test.Certificates ∷ test.Content ∷ test.Forms ∷ test.Validity
    ∷ test.Signatures ∷ test.Lists ∷ test.Revocation ∷ []

-- All tests are passed.
abbrev pub IsValid : Digests → Verdicts → Bool → ℕ → RtaValue → Type 0
IsValid d good strict now r = Each (Passes d good strict now r) rta_tests

-- The first that isn't.
abbrev pub FailsFirst : Digests → Verdicts → Bool → ℕ → RtaValue → RtaTest → Type 0
FailsFirst d good strict now r = FirstFailing (Passes d good strict now r) rta_tests
