-- Resources that a signed document states: what it lists itself, never what an issuer has (RFC 9323 4.1).
use Rattle.std.specs.Prelude.{◌≡◌, ◌≢◌, ℕ, List, Option, Some, None}
use Rattle.objects_cms.specs.bcder_content.Grammar.{As, End, Inside, Opt, Where, Then}
use Rattle.resources_ip.specs.bcder_tree.declared.mode.Mode.{Mode}
use Rattle.resources_ip.specs.bcder_tree.Tags.{context, sequence_tag}
use Rattle.resources_ip.specs.bcder_tree.Tree.{Tree, Trees}
use Rattle.resources_ip.specs.resources_chain.Claims.{Choice, Lists}
use Rattle.resources_ip.specs.resources_chain.Sets.{Run}
use Rattle.resources_ip.specs.resources_chain.declared.choice.ResourcesChoice.TheVariants.{Missing, Inherit, Blocks}
use Rattle.resources_as.specs.Encodings.{IsAsSet}
use Rattle.resources_ip.specs.Encodings.{FamilyChoices, IsIpAddrBlocks}
use Rattle.objects_valid.specs.declared.stated.AsForm.{AsForm}
use Rattle.objects_valid.specs.declared.stated.AsForm.TheVariants.{Identifiers, BlocksAlone}

-- Of each kind, the set that is stated, or that none is.
pub record Stated : Type 0 where
  pub asn : Choice
  pub v4 : Choice
  pub v6 : Choice

-- ASIdentifiers without `inherit`: SEQUENCE { asnum [0] EXPLICIT SEQUENCE OF ASIdOrRange } (RFC 9323 4.1.1).
abbrev pub innermost : (List Run × Unit {0}) × Unit {0} → List Run
innermost x = x.0.0

abbrev pub AreAsnum : Trees → (List Run × Unit {0}) × Unit {0} → Type 0
AreAsnum = Then (Inside (context 0) (Then IsAsSet End)) End

abbrev pub IsAsIdentifiers : Tree → List Run → Type 0
IsAsIdentifiers = As (Inside sequence_tag AreAsnum) innermost

-- AS numbers in the form that the kind of document has: as identifiers, or as their blocks alone.
abbrev pub IsAsPart : AsForm → Tree → List Run → Type 0
IsAsPart Identifiers = IsAsIdentifiers
IsAsPart BlocksAlone = IsAsSet

-- Neither family is inherited.
abbrev pub AreListed : FamilyChoices → Type 0
AreListed x = (x.v4 ≢ Inherit) × (x.v6 ≢ Inherit)

-- IPAddrBlocks without `inherit`: one family at least, and each at most once (RFC 9323 4.1.2).
abbrev pub AreStatedFamilies : Mode → Tree → FamilyChoices → Type 0
AreStatedFamilies m = Where (IsIpAddrBlocks m) AreListed

-- asID [0] EXPLICIT OPTIONAL, ipAddrBlocks [1] EXPLICIT OPTIONAL
abbrev pub Parts : Type 0
Parts = Option (List Run × Unit {0}) × (Option (FamilyChoices × Unit {0}) × Unit {0})

abbrev pub AreParts : AsForm → Mode → Trees → Parts → Type 0
AreParts form m =
    Opt (context 0) (Inside (context 0) (Then (IsAsPart form) End))
    (Opt (context 1) (Inside (context 1) (Then (AreStatedFamilies m) End))
    End)

abbrev pub asn_of : Option (List Run × Unit {0}) → Choice
asn_of None = Missing
asn_of (Some x) = Blocks x.0

abbrev pub families_of : Option (FamilyChoices × Unit {0}) → FamilyChoices
families_of None = record { v4 = Missing; v6 = Missing }
families_of (Some x) = x.0

abbrev pub stated_of : Parts → Stated
stated_of p = record { asn = asn_of p.0; v4 = (families_of p.1.0).v4; v6 = (families_of p.1.0).v6 }

-- One of them is there, at least.
abbrev pub SaysSome : Parts → Type 0
SaysSome p = ¬ ((p.0 ≡ None) × (p.1.0 ≡ None))

-- ResourceBlock ::= SEQUENCE { asID [0] OPTIONAL, ipAddrBlocks [1] OPTIONAL }, of which one is there, at least (RFC 9323 4.1).
pub record AreStated (form : AsForm) (m : Mode) (ts : Trees) (x : Stated) : Type 0 where
  pub parts : Parts
  pub are : AreParts form m ts parts
  pub some : SaysSome parts
  pub says : x ≡ stated_of parts

abbrev pub IsStated : AsForm → Mode → Tree → Stated → Type 0
IsStated form m = Inside sequence_tag (AreStated form m)

-- Each number that is stated is held.
abbrev pub AreHeld : Choice → (ℕ → Type 0) → Type 0
AreHeld choice held = (n : ℕ) → Lists choice n → held n

abbrev pub IsCovered : (ℕ → Type 0) → (ℕ → Type 0) → (ℕ → Type 0) → Stated → Type 0
IsCovered asn v4 v6 s = AreHeld s.asn asn × AreHeld s.v4 v4 × AreHeld s.v6 v6
