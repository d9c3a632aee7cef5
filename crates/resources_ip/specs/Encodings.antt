-- IP resources in an encoding: IPAddrBlocks (RFC 3779 2.2.3).
use Rattle.std.specs.Prelude.{◌≡◌, ◌≢◌, Bool, true, false, List, [], ◌∷◌, if◌then◌else◌}
use Rattle.resources_ip.specs.bcder_tree.declared.mode.Mode.{Mode}
use Rattle.resources_ip.specs.bcder_tree.Tags.{null_tag, sequence_tag}
use Rattle.resources_ip.specs.bcder_tree.Tree.{Tree, Trees}
use Rattle.resources_ip.specs.bcder_primitive.Values.{IsNull}
use Rattle.resources_ip.specs.bcder_content.Grammar.{As, End, Inside, Many, OctetsOf, OneOf, Then}
use Rattle.resources_ip.specs.resources_chain.Sets.{Run, InRuns, IsRunsOf}
use Rattle.resources_ip.specs.resources_chain.Claims.{Choice}
use Rattle.resources_ip.specs.resources_chain.declared.choice.ResourcesChoice.TheVariants.{Missing, Inherit, Blocks}
use Rattle.resources_ip.specs.resources_ip_prefix.declared.addr.AddressFamily.{AddressFamily}
use Rattle.resources_ip.specs.resources_ip_prefix.declared.addr.AddressFamily.TheVariants.{Ipv4, Ipv6}
use Rattle.resources_ip_block.specs.BlockEncodings.{IsBlock}
use Rattle.resources_ip.specs.resources_ip_prefix.Encodings.{IsFamily}

-- addressesOrRanges SEQUENCE OF IPAddressOrRange (2.2.3.6), in any order: they mean their union.
pub record AreBlocks (m : Mode) (family : AddressFamily) (ts : Trees) (set : List Run)
    : Type 0 where
  pub runs : List Run
  pub are : Many (IsBlock m family) ts runs
  pub union : IsRunsOf (InRuns runs) set

abbrev pub IsBlockList : Mode → AddressFamily → Tree → List Run → Type 0
IsBlockList m family = Inside sequence_tag (AreBlocks m family)

abbrev pub lists : List Run → Choice
lists set = Blocks set

-- inherit NULL (2.2.3.5).
abbrev pub inherits : Unit {0} → Choice
inherits x = Inherit

abbrev pub Inherits : Tree → Choice → Type 0
Inherits = As (OctetsOf null_tag IsNull) inherits

-- IPAddressChoice ::= CHOICE { inherit NULL, addressesOrRanges SEQUENCE OF IPAddressOrRange } (2.2.3.4).
abbrev pub IsIpChoice : Mode → AddressFamily → Tree → Choice → Type 0
IsIpChoice m family = OneOf Inherits (As (IsBlockList m family) lists)

-- IPAddressFamily ::= SEQUENCE { addressFamily OCTET STRING, ipAddressChoice IPAddressChoice } (2.2.3.2).
pub record FamilyChoice : Type 0 where
  pub family : AddressFamily
  pub choice : Choice

pub record AreFamilyFields (m : Mode) (ts : Trees) (x : FamilyChoice) : Type 0 where
  pub are : Then (IsFamily m) (Then (IsIpChoice m x.family) End) ts (x.family, (x.choice, tt))

abbrev pub IsIpFamily : Mode → Tree → FamilyChoice → Type 0
IsIpFamily m = Inside sequence_tag (AreFamilyFields m)

-- No value is of that family.
abbrev pub NoneOf : AddressFamily → List FamilyChoice → Type 0
NoneOf family [] = Unit {0}
NoneOf family (x ∷ xs) = (x.family ≢ family) × NoneOf family xs

-- Each family occurs at most once.
abbrev pub EachOnce : List FamilyChoice → Type 0
EachOnce [] = Unit {0}
EachOnce (x ∷ xs) = NoneOf x.family xs × EachOnce xs

abbrev pub is_same : AddressFamily → AddressFamily → Bool
is_same Ipv4 Ipv4 = true
is_same Ipv4 Ipv6 = false
is_same Ipv6 Ipv4 = false
is_same Ipv6 Ipv6 = true

-- What is said of a family: missing where it isn't mentioned.
abbrev pub choice_of : AddressFamily → List FamilyChoice → Choice
choice_of family [] = Missing
choice_of family (x ∷ xs) = if is_same x.family family then x.choice else choice_of family xs

pub record FamilyChoices : Type 0 where
  pub v4 : Choice
  pub v6 : Choice

abbrev pub choices_of : List FamilyChoice → FamilyChoices
choices_of families = record { v4 = choice_of Ipv4 families; v6 = choice_of Ipv6 families }

-- IPAddrBlocks ::= SEQUENCE OF IPAddressFamily (2.2.3.1): one at least, and of each family one at most (RFC 6487 4.8.10).
pub record AreIpFamilies (m : Mode) (ts : Trees) (x : FamilyChoices) : Type 0 where
  pub families : List FamilyChoice
  pub are : Many (IsIpFamily m) ts families
  pub some : families ≢ []
  pub once : EachOnce families
  pub says : x ≡ choices_of families

abbrev pub IsIpAddrBlocks : Mode → Tree → FamilyChoices → Type 0
IsIpAddrBlocks m = Inside sequence_tag (AreIpFamilies m)
