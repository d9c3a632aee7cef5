-- Manifests: the files of a publication point (RFC 9286 4).
use Rattle.std.specs.Prelude.{◌≡◌, ◌≢◌, ℕ, ◌⊎◌, Bool, List, [], ◌∷◌, ◌++◌, length, Option, All}
use Rattle.objects_payload.specs.bcder_tree.declared.mode.Mode.TheVariants.{Der}
use Rattle.objects_payload.specs.bcder_tree.Tags.{universal, generalized_time_tag, ia5_string_tag, sequence_tag}
use Rattle.objects_payload.specs.bcder_tree.Tree.{Tree}
use Rattle.objects_payload.specs.bcder_tree.Strings.{IsLetter, IsDigit, IsIa5}
use Rattle.objects_payload.specs.bcder.Sets.{alone}
use Rattle.objects_payload.specs.bcder.Restricted.{IsRestricted}
use Rattle.objects_payload.specs.bcder_octets.Bits.{BitsValue}
use Rattle.objects_payload.specs.bcder_octets.BitContents.{IsBitString}
use Rattle.objects_payload.specs.bcder_content.Grammar.{OctetsOf, Inside, As, Where, Then, Many, End}
use Rattle.objects_payload.specs.certs_basics.Times.{IsMoment}
use Rattle.objects_payload.specs.certs_basics.Basics.{IsSerial}
use Rattle.objects_payload.specs.ObjectText.{Object}
use Rattle.objects_payload.specs.Contents.{VersionZero, ReadsAs}
use Rattle.objects_payload.specs.Identifiers as id

-- A name of a listed file: letters, digits, `-` and `_`, a dot (46), and three letters (RFC 9286 4.2.2).
pub record IsFileName (name : List ℕ) : Type 0 where
  pub base : List ℕ
  pub extension : List ℕ
  pub whole : name ≡ base ++ 46 ∷ extension
  pub some : base ≢ []
  pub base_is : All (λ c. IsLetter c ⊎ IsDigit c ⊎ (c ≡ 45) ⊎ (c ≡ 95)) base
  pub extension_is : All IsLetter extension
  pub three : length extension ≡ 3

pub record File : Type 0 where
  pub name : List ℕ
  pub hash : List ℕ

-- A hash in whole octets, of any length.
abbrev pub IsWhole : BitsValue → Type 0
IsWhole v = v.unused ≡ 0

abbrev pub file_of : List ℕ × (BitsValue × Unit {0}) → File
file_of f = record { name = f.0; hash = f.1.0.octets }

-- FileAndHash ::= SEQUENCE { file IA5String, hash BIT STRING } (RFC 9286 4.2)
abbrev pub IsFile : Tree → File → Type 0
IsFile = As (Inside sequence_tag
    (Then (Where (IsRestricted IsIa5 alone Der ia5_string_tag) IsFileName)
    (Then (Where (OctetsOf (universal 3) (IsBitString Der)) IsWhole) End))) file_of

-- A moment as GeneralizedTime alone (RFC 9286 4.2.1).
abbrev pub IsMomentString : Tree → ℕ → Type 0
IsMomentString = OctetsOf generalized_time_tag IsMoment

pub record Manifest : Type 0 where
  pub number : ℕ
  pub this_update : ℕ
  pub next_update : ℕ
  pub files : List File

abbrev pub Fields : Type 0
Fields = Option (Unit {0} × Unit {0}) × (ℕ × (ℕ × (ℕ × (Unit {0} × (List File × Unit {0})))))

abbrev pub manifest_of : Fields → Manifest
manifest_of f =
    record { number = f.1.0; this_update = f.1.1.0; next_update = f.1.1.1.0; files = f.1.1.1.1.1.0 }

-- Manifest ::= SEQUENCE { version [0] INTEGER DEFAULT 0, manifestNumber INTEGER, thisUpdate GeneralizedTime, nextUpdate
-- GeneralizedTime, fileHashAlg OBJECT IDENTIFIER (SHA-256), fileList SEQUENCE OF FileAndHash } (RFC 9286 4.2)
abbrev pub IsManifest : Tree → Manifest → Type 0
IsManifest = As (Inside sequence_tag (VersionZero
    (Then IsSerial (Then IsMomentString (Then IsMomentString
    (Then (id.TheOid id.sha256) (Then (Inside sequence_tag (Many IsFile)) End))))))) manifest_of

-- A signed object that is a manifest (RFC 9286 4.1).
abbrev pub ManifestText : Bool → List ℕ → Object → Manifest → Type 0
ManifestText = ReadsAs id.manifest IsManifest
