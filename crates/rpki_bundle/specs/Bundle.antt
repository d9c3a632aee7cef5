-- Bundles: all that one run is told, in one DER value (this project's own form, versions 0 and 1). Beside each line
-- stands its ASN.1.
use Rattle.std.specs.Prelude.{◌≡◌, ◌≢◌, ℕ, ◌^◌, ◌≤◌, Bool, false, List, [], ◌++◌, length, All}
use Rattle.rpki_bundle.specs.bcder_tree.declared.mode.Mode.{Mode}
use Rattle.rpki_bundle.specs.bcder_tree.declared.mode.Mode.TheVariants.{Der}
use Rattle.rpki_bundle.specs.bcder_tree.Tags.{boolean_tag, generalized_time_tag, ia5_string_tag, integer_tag, printable_string_tag}
use Rattle.rpki_bundle.specs.bcder_tree.Tree.{Tree, Trees}
use Rattle.rpki_bundle.specs.bcder_tree.Sequences.{sequence_tag}
use Rattle.rpki_bundle.specs.bcder_tree.Strings.{IsPrintable, IsIa5, IsOctetString, octet_string_tag}
use Rattle.rpki_bundle.specs.bcder_primitive.Values.{IsBoolean, IsUnsigned}
use Rattle.rpki_bundle.specs.bcder.Sets.{alone}
use Rattle.rpki_bundle.specs.bcder.Restricted.{IsRestricted}
use Rattle.rpki_bundle.specs.bcder_content.Grammar.{Inside, OctetsOf, Where, As, End, Then, Many}
use Rattle.rpki_bundle.specs.bcder_content.Words.{ThenBy}
use Rattle.rpki_bundle.specs.bcder_content.Texts.{SpellsOf}
use Rattle.rpki_bundle.specs.declared.limits.TheConstants.{MIN_DEPTH, MAX_DEPTH}
use Rattle.rpki_bundle.specs.declared.parts.Locator.{Locator}
use Rattle.rpki_bundle.specs.declared.parts.Object.{Object}
use Rattle.rpki_bundle.specs.declared.parts.Verdict.{Verdict}
use Rattle.rpki_bundle.specs.declared.version.Version.{Version}
use Rattle.rpki_bundle.specs.declared.version.Version.TheVariants.{Zero, One}
use Rattle.certs_basics.specs.Times.{IsMoment}
use Rattle.certs_basics.specs.Uris.{IsLookupKey}
use Rattle.rpki_bundle.specs.Orders.{Ascends}

-- What a bundle tells.
pub record BundleValue : Type 0 where
  pub version : Version
  pub moment : ℕ
  pub depth : ℕ
  pub locators : List Locator
  pub objects : List Object
  pub verdicts : List Verdict

-- Whether signed objects are read in BER: as version 1 says, and in version 0 never.
abbrev pub is_relaxed : Version → Bool
is_relaxed Zero = false
is_relaxed (One relaxed) = relaxed

-- The number that names it.
abbrev pub number_of : Version → ℕ
number_of Zero = 0
number_of (One relaxed) = 1

-- INTEGER
abbrev pub IsNumber : Tree → ℕ → Type 0
IsNumber = OctetsOf integer_tag (IsUnsigned (2 ^ 8))

-- BOOLEAN
abbrev pub IsFlag : Mode → Tree → Bool → Type 0
IsFlag m = OctetsOf boolean_tag (IsBoolean m)

-- Version 0 has no flag, version 1 has one, and no bundle has another version. R comes after that.
abbrev pub FlagCases : {A : Type 0} → Mode → ℕ → (Trees → A → Type 0) → Trees → Version → A → Type 0
FlagCases m number R ts Zero x = (number ≡ 0) × R ts x
FlagCases m number R ts (One relaxed) x = (number ≡ 1) × Then (IsFlag m) R ts (relaxed, x)

pub record Flag {A : Type 0} (m : Mode) (number : ℕ) (R : Trees → A → Type 0) (ts : Trees)
    (x : Version × A) : Type 0 where
  pub cases : FlagCases m number R ts x.0 x.1

-- GeneralizedTime: YYYYMMDDHHMMSSZ (RFC 5280 4.1.2.5.2)
abbrev pub IsMomentString : Tree → ℕ → Type 0
IsMomentString = OctetsOf generalized_time_tag IsMoment

-- INTEGER (1..32)
abbrev pub IsDepth : ℕ → Type 0
IsDepth n = (MIN_DEPTH ≤ n) × (n ≤ MAX_DEPTH)

abbrev pub IsDepthNumber : Tree → ℕ → Type 0
IsDepthNumber = Where IsNumber IsDepth

-- PrintableString: a name, not empty, and without a space (32)
abbrev pub IsWord : List ℕ → Type 0
IsWord text = (text ≢ []) × All (λ c. c ≢ 32) text

abbrev pub IsNameString : Mode → Tree → List ℕ → Type 0
IsNameString m = Where (IsRestricted IsPrintable alone m printable_string_tag) IsWord

-- IA5String: a URI that is its own lookup key
abbrev pub IsUriString : Mode → Tree → List ℕ → Type 0
IsUriString m = Where (IsRestricted IsIa5 alone m ia5_string_tag) IsLookupKey

-- OCTET STRING (SIZE (32))
pub record IsDigest (content octets : List ℕ) : Type 0 where
  pub same : content ≡ octets
  pub long : length content ≡ 32

abbrev pub IsDigestString : Tree → List ℕ → Type 0
IsDigestString = OctetsOf octet_string_tag IsDigest

-- Locator ::= SEQUENCE { name, text }
abbrev pub Strings : Type 0
Strings = List ℕ × (List ℕ × Unit {0})

abbrev pub as_locator : Strings → Locator
as_locator f = record { name = f.0; text = f.1.0 }

abbrev pub AreLocatorFields : Mode → Trees → Strings → Type 0
AreLocatorFields m =
    Then (IsNameString m)  -- name PrintableString
    (Then (IsOctetString m)  -- text OCTET STRING
    End)

abbrev pub IsLocator : Mode → Tree → Locator → Type 0
IsLocator m = As (Inside sequence_tag (AreLocatorFields m)) as_locator

-- Object ::= SEQUENCE { uri, octets }
abbrev pub as_object : Strings → Object
as_object f = record { uri = f.0; octets = f.1.0 }

abbrev pub AreObjectFields : Mode → Trees → Strings → Type 0
AreObjectFields m =
    Then (IsUriString m)  -- uri IA5String
    (Then (IsOctetString m)  -- octets OCTET STRING
    End)

abbrev pub IsObject : Mode → Tree → Object → Type 0
IsObject m = As (Inside sequence_tag (AreObjectFields m)) as_object

-- Verdict ::= SEQUENCE { key, message, signature }
abbrev pub Digests : Type 0
Digests = List ℕ × Strings

abbrev pub as_verdict : Digests → Verdict
as_verdict f = record { key = f.0; message = f.1.0; signature = f.1.1.0 }

abbrev pub AreVerdictFields : Trees → Digests → Type 0
AreVerdictFields =
    Then IsDigestString  -- key OCTET STRING (SIZE (32))
    (Then IsDigestString  -- message OCTET STRING (SIZE (32))
    (Then IsDigestString  -- signature OCTET STRING (SIZE (32))
    End))

abbrev pub IsVerdict : Tree → Verdict → Type 0
IsVerdict = As (Inside sequence_tag AreVerdictFields) as_verdict

-- A verdict goes by its 96 octets.
abbrev pub verdict_row : Verdict → List ℕ
verdict_row v = v.key ++ (v.message ++ v.signature)

-- SEQUENCE OF, strictly ascending by the rows of octets that `row` gives
abbrev pub IsAscendingList : {A : Type 0} → (Tree → A → Type 0) → (A → List ℕ) → Tree → List A
    → Type 0
IsAscendingList Q row = Where (Inside sequence_tag (Many Q)) (Ascends row)

-- Bundle ::= SEQUENCE { version, moment, depth, relaxed, locators, objects, verdicts }
abbrev pub Lists : Type 0
Lists = List Locator × (List Object × (List Verdict × Unit {0}))

abbrev pub BundleFields : Type 0
BundleFields = ℕ × (ℕ × (ℕ × (Version × Lists)))

abbrev pub as_bundle : BundleFields → BundleValue
as_bundle f = record {
  version = f.1.1.1.0;
  moment = f.1.0;
  depth = f.1.1.0;
  locators = f.1.1.1.1.0;
  objects = f.1.1.1.1.1.0;
  verdicts = f.1.1.1.1.1.1.0;
}

abbrev pub AreLists : Mode → Trees → Lists → Type 0
AreLists m =
    Then (IsAscendingList (IsLocator m) (λ l. l.name))  -- locators SEQUENCE OF Locator, by their names
    (Then (IsAscendingList (IsObject m) (λ o. o.uri))  -- objects SEQUENCE OF Object, by their URIs
    (Then (IsAscendingList IsVerdict verdict_row)  -- verdicts SEQUENCE OF Verdict, by all their octets
    End))

abbrev pub AreBundleFields : Mode → Trees → BundleFields → Type 0
AreBundleFields m =
    ThenBy IsNumber (λ number.  -- version INTEGER (0..1)
    Then IsMomentString  -- moment GeneralizedTime
    (Then IsDepthNumber  -- depth INTEGER (1..32)
    (Flag m number  -- relaxed BOOLEAN, in version 1 alone, and always there
    (AreLists m))))

abbrev pub IsBundle : Mode → Tree → BundleValue → Type 0
IsBundle m = As (Inside sequence_tag (AreBundleFields m)) as_bundle

-- The octets, all of them, spell the bundle in DER.
pub record BundleText (octets : List ℕ) (b : BundleValue) : Type 0 where
  pub spelled : SpellsOf Der (IsBundle Der) octets b

-- Some octets spell it.
abbrev pub IsSpelled : BundleValue → Type 0
IsSpelled b = (octets : List ℕ) × BundleText octets b
