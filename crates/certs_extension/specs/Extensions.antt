-- The extensions of a certificate (RFC 5280 4.2, RFC 6487 4.8), each by its octets.
use Rattle.std.specs.Prelude.{◌≡◌, ◌≢◌, ℕ, Bool, true, false, List, [], ◌∷◌, Option, Some, None, bytes_eq, if◌then◌else◌}
use Rattle.certs_extension.specs.bcder_tree.declared.mode.Mode.{Mode}
use Rattle.certs_extension.specs.bcder_tree.declared.mode.Mode.TheVariants.{Der}
use Rattle.certs_extension.specs.bcder_tree.Tags.{context, boolean_tag, oid_tag, sequence_tag}
use Rattle.certs_extension.specs.bcder_tree.Tree.{Tree, Trees}
use Rattle.certs_extension.specs.bcder_tree.Strings.{IsOctetString, octet_string_tag}
use Rattle.certs_extension.specs.bcder_primitive.Values.{IsBoolean}
use Rattle.certs_extension.specs.bcder_content.Grammar.{Inside, OctetsOf, As, End, Rest, Then, Default}
use Rattle.certs_extension.specs.bcder.Identifiers.{IsOid}
use Rattle.certs_extension.specs.bcder_octets.Bits.{BitsValue}
use Rattle.certs_extension.specs.bcder_octets.BitContents.{IsBitString, bit_string_tag}
use Rattle.certs_extension.specs.resources_chain.declared.claims.Overclaim.{Overclaim}
use Rattle.certs_extension.specs.resources_as.Identifiers.{policy_octets}
use Rattle.certs_extension.specs.declared.forms.KeyUsage.{KeyUsage}
use Rattle.certs_extension.specs.declared.forms.KeyUsage.TheVariants.{Ca, Ee}
use Rattle.certs_extension.specs.bcder_content.Words.{Means, Gathers}
use Rattle.certs_extension.specs.bcder_content.Texts.{ReadsFront}
use Rattle.certs_extension.specs.certs_basics.Basics.{IsKeyIdentifier}
use Rattle.certs_extension.specs.Grammars as names
use Rattle.certs_extension.specs.Names.{only}

pub record Extension : Type 0 where
  pub kind : List ℕ
  pub critical : Bool
  pub octets : List ℕ

-- Extension ::= SEQUENCE { extnID OBJECT IDENTIFIER, critical BOOLEAN DEFAULT FALSE, extnValue OCTET STRING }; FALSE may
-- be written out (RFC 5280 4.1)
abbrev pub ExtensionFields : Type 0
ExtensionFields = List ℕ × (Bool × (List ℕ × Unit {0}))

abbrev pub IsExtensionBody : Mode → Trees → ExtensionFields → Type 0
IsExtensionBody m = Then (OctetsOf oid_tag IsOid)
    (Default boolean_tag (OctetsOf boolean_tag (IsBoolean m)) false (Then (IsOctetString m) End))

abbrev pub as_extension : ExtensionFields → Extension
as_extension f = record { kind = f.0; critical = f.1.0; octets = f.1.1.0 }

abbrev pub IsExtension : Mode → Tree → Extension → Type 0
IsExtension m = As (Inside sequence_tag (IsExtensionBody m)) as_extension

-- Whether an extension must be critical.
pub data Need : Type 0 where
  Must : Need
  MustNot : Need
  May : Need

abbrev pub Meets : Need → Bool → Type 0
Meets Must critical = critical ≡ true
Meets MustNot critical = critical ≡ false
Meets May critical = Unit {0}

-- The extensions of that kind.
abbrev pub of_kind : List ℕ → List Extension → List Extension
of_kind kind [] = []
of_kind kind (e ∷ es) = if bytes_eq e.kind kind then e ∷ of_kind kind es else of_kind kind es

-- None of the list, and no value; or one, met by its need, whose octets have a value of Q in front.
abbrev pub IsOptional : {A : Type 0} → Need → (Tree → A → Type 0) → List Extension → Option A
    → Type 0
IsOptional need Q [] None = Unit {0}
IsOptional need Q [] (Some x) = ⊥
IsOptional need Q (e ∷ []) None = ⊥
IsOptional need Q (e ∷ []) (Some x) = Meets need e.critical × ReadsFront Q e.octets x
IsOptional need Q (e ∷ f ∷ es) x = ⊥

abbrev pub Only : {A : Type 0} → (Tree → A → Type 0) → Tree → A → Type 0
Only Q = As (Inside sequence_tag (Then Q End)) only

-- The only field of a content.
abbrev pub alone : {A : Type 0} → A → A × Unit {0}
alone x = (x, tt)

-- BasicConstraints ::= SEQUENCE { cA BOOLEAN DEFAULT FALSE }, without a path length (RFC 6487 4.8.1)
abbrev pub IsConstraintsBody : Mode → Trees → Bool × Unit {0} → Type 0
IsConstraintsBody m = Default boolean_tag (OctetsOf boolean_tag (IsBoolean m)) false End

abbrev pub AreConstraints : Mode → Tree → Bool → Type 0
AreConstraints m = As (Inside sequence_tag (IsConstraintsBody m)) only

abbrev pub IsBasicConstraints : Tree → Bool → Type 0
IsBasicConstraints = AreConstraints Der

-- SubjectKeyIdentifier ::= KeyIdentifier (RFC 6487 4.8.2)
abbrev pub IsSubjectKeyIdentifier : Tree → List ℕ → Type 0
IsSubjectKeyIdentifier = IsKeyIdentifier Der octet_string_tag

-- AuthorityKeyIdentifier ::= SEQUENCE { keyIdentifier [0] IMPLICIT KeyIdentifier } (RFC 6487 4.8.3)
abbrev pub IsAuthorityBody : Mode → Trees → List ℕ × Unit {0} → Type 0
IsAuthorityBody m = Then (IsKeyIdentifier m (context 0)) End

abbrev pub IsAuthority : Mode → Tree → List ℕ → Type 0
IsAuthority m = As (Inside sequence_tag (IsAuthorityBody m)) only

abbrev pub IsAuthorityKeyIdentifier : Tree → List ℕ → Type 0
IsAuthorityKeyIdentifier = IsAuthority Der

-- KeyUsage ::= BIT STRING: keyCertSign and cRLSign, or digitalSignature alone (RFC 6487 4.8.4)
abbrev pub UsageBits : BitsValue → KeyUsage → Type 0
UsageBits v Ca = v ≡ record { unused = 1; octets = 6 ∷ [] }
UsageBits v Ee = v ≡ record { unused = 7; octets = 128 ∷ [] }

abbrev pub IsUsage : Mode → Tree → KeyUsage → Type 0
IsUsage m = Means (OctetsOf bit_string_tag (IsBitString m)) UsageBits

abbrev pub IsKeyUsage : Tree → KeyUsage → Type 0
IsKeyUsage = IsUsage Der

-- ExtKeyUsageSyntax ::= SEQUENCE SIZE (1..MAX) OF KeyPurposeId (RFC 5280 4.2.1.12)
abbrev pub AreSome : List (List ℕ) → List (List ℕ) → Type 0
AreSome purposes same = (purposes ≡ same) × (same ≢ [])

abbrev pub IsExtendedKeyUsage : Tree → List (List ℕ) → Type 0
IsExtendedKeyUsage = Inside sequence_tag (Gathers (OctetsOf oid_tag IsOid) AreSome)

-- CRLDistributionPoints, and AuthorityInfoAccessSyntax: one rsync URI (RFC 6487 4.8.6, 4.8.7)
abbrev pub IsCrlDistribution : Tree → List ℕ → Type 0
IsCrlDistribution = names.IsDistribution Der

abbrev pub IsAuthorityAccess : Tree → List ℕ → Type 0
IsAuthorityAccess = names.IsAuthority Der

-- CertificatePolicies ::= SEQUENCE { SEQUENCE { policyIdentifier, the rest skipped } }: exactly one (RFC 6487 4.8.9, RFC 8360 4.2)
abbrev pub IsPolicyOid : List ℕ → Overclaim → Type 0
IsPolicyOid octets policy = octets ≡ policy_octets policy

abbrev pub IsPolicyBody : Mode → Trees → Overclaim × Unit {0} → Type 0
IsPolicyBody m = Then (Means (OctetsOf oid_tag IsOid) IsPolicyOid) Rest

abbrev pub IsPolicy : Tree → Overclaim → Type 0
IsPolicy = As (Inside sequence_tag (IsPolicyBody Der)) only

abbrev pub ArePoliciesBody : Mode → Trees → Overclaim × Unit {0} → Type 0
ArePoliciesBody m = Then IsPolicy End

abbrev pub IsPolicies : Tree → Overclaim → Type 0
IsPolicies = As (Inside sequence_tag (ArePoliciesBody Der)) only
