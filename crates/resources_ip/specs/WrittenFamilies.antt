-- What is written of IP resources of both families (RFC 3779 2.2.3.1, RFC 6487 4.8.10).
use Rattle.std.specs.Prelude.{◌≡◌, ℕ, Bool, true, false, List, if◌then◌else◌}
use Rattle.resources_ip.specs.bcder_tree.declared.mode.Mode.{Mode}
use Rattle.resources_ip.specs.bcder_tree.Strings.{octet_string_tag}
use Rattle.resources_ip.specs.bcder_tree.Tags.{sequence_tag}
use Rattle.resources_ip.specs.bcder_tree.Tree.{Tree, Trees, none, more}
use Rattle.resources_ip.specs.bcder_octets.Segments.{StringTrees, WritesString, string_spelled, string_one}
use Rattle.resources_ip.specs.bcder_primitive.Encoded.{NoTree, NoText, AreBoth, WritesBoth, IsWrapped, WritesWrapped, SpellsSome}
use Rattle.resources_ip.specs.bcder_values.Choices.{nothing_spelled, nothing_one}
use Rattle.resources_ip.specs.bcder_values.Laws.{both_spelled, both_one}
use Rattle.resources_ip.specs.bcder_values.Wraps.{wrapped_spelled, wrapped_one}
use Rattle.resources_ip.specs.resources_chain.Claims.{Choice}
use Rattle.resources_ip.specs.resources_chain.declared.choice.ResourcesChoice.TheVariants.{Missing, Inherit, Blocks}
use Rattle.resources_ip.specs.resources_ip_prefix.declared.addr.AddressFamily.{AddressFamily}
use Rattle.resources_ip.specs.resources_ip_prefix.declared.addr.AddressFamily.TheVariants.{Ipv4, Ipv6}
use Rattle.resources_ip.specs.resources_ip_prefix.Encodings.{family_octets}
use Rattle.resources_ip.specs.Encodings.{FamilyChoices, IsIpAddrBlocks}
use Rattle.resources_ip.specs.Written.{AreIpResources, WritesIpResources, resources_spelled, resources_one}

-- Whether anything is said of a family, and of one of the two at least.
abbrev pub is_said : Choice → Bool
is_said Missing = false
is_said Inherit = true
is_said (Blocks runs) = true

abbrev pub says_any : FamilyChoices → Bool
says_any x = if is_said x.v4 then true else is_said x.v6

-- These values where it is so, and else none.
abbrev pub TreesIf : Bool → (Trees → Type 0) → Trees → Type 0
TreesIf true T = T
TreesIf false T = NoTree

abbrev pub TextIf : Bool → (List ℕ → Type 0) → List ℕ → Type 0
TextIf true P = P
TextIf false P = NoText

-- IPAddressFamily: a SEQUENCE of the family's number and of what is said of it (2.2.3.2); nothing where it is missing.
abbrev pub FamilyTrees : Mode → AddressFamily → Choice → Trees → Type 0
FamilyTrees m family choice = TreesIf (is_said choice)
    (IsWrapped sequence_tag (AreBoth (StringTrees m octet_string_tag (family_octets family))
    (AreIpResources m choice)))

abbrev pub WritesFamily : Mode → AddressFamily → Choice → List ℕ → Type 0
WritesFamily m family choice = TextIf (is_said choice)
    (WritesWrapped m sequence_tag (WritesBoth (WritesString m octet_string_tag
    (family_octets family)) (WritesIpResources m choice)))

-- IPAddrBlocks: a SEQUENCE of these, IPv4 first (2.2.3.1, 2.2.3.3); nothing where both are missing, since a list names
-- one family at least.
abbrev pub FamiliesTrees : Mode → FamilyChoices → Trees → Type 0
FamiliesTrees m x = TreesIf (says_any x) (IsWrapped sequence_tag
    (AreBoth (FamilyTrees m Ipv4 x.v4) (FamilyTrees m Ipv6 x.v6)))

abbrev pub WritesFamilies : Mode → FamilyChoices → List ℕ → Type 0
WritesFamilies m x = TextIf (says_any x) (WritesWrapped m sequence_tag
    (WritesBoth (WritesFamily m Ipv4 x.v4) (WritesFamily m Ipv6 x.v6)))

-- Choices of both families.
abbrev pub both : Choice → Choice → FamilyChoices
both v4 v6 = record { v4 = v4; v6 = v6 }

-- The values are one, which is read as the same choices.
pub record ReadsFamilies (m : Mode) (x : FamilyChoices) (ts : Trees) : Type 0 where
  pub tree : Tree
  pub alone : ts ≡ more tree none
  pub is : IsIpAddrBlocks m tree x

-- What is written spells these values, and is always the same.
if_spelled : (m : Mode) (b : Bool) {T : Trees → Type 0} {P : List ℕ → Type 0}
    → ((text : List ℕ) → P text → SpellsSome m T text) → (text : List ℕ) → TextIf b P text
    → SpellsSome m (TreesIf b T) text
if_spelled m true f = f
if_spelled m false f = nothing_spelled m

if_one : (b : Bool) {P : List ℕ → Type 0} → ((u v : List ℕ) → P u → P v → u ≡ v) → (u v : List ℕ)
    → TextIf b P u → TextIf b P v → u ≡ v
if_one true f = f
if_one false f = nothing_one

pub family_spelled : (m : Mode) (family : AddressFamily) (choice : Choice) (text : List ℕ)
    → WritesFamily m family choice text → SpellsSome m (FamilyTrees m family choice) text
family_spelled m family choice = if_spelled m (is_said choice)
    (wrapped_spelled m (both_spelled m (string_spelled m octet_string_tag (family_octets family))
    (resources_spelled m choice)))

pub family_one : (m : Mode) (family : AddressFamily) (choice : Choice) (a b : List ℕ)
    → WritesFamily m family choice a → WritesFamily m family choice b → a ≡ b
family_one m family choice = if_one (is_said choice)
    (wrapped_one m (both_one (string_one m octet_string_tag (family_octets family))
    (resources_one m choice)))

pub families_spelled : (m : Mode) (x : FamilyChoices) (text : List ℕ) → WritesFamilies m x text
    → SpellsSome m (FamiliesTrees m x) text
families_spelled m x = if_spelled m (says_any x)
    (wrapped_spelled m (both_spelled m (family_spelled m Ipv4 x.v4) (family_spelled m Ipv6 x.v6)))

pub families_one : (m : Mode) (x : FamilyChoices) (a b : List ℕ) → WritesFamilies m x a
    → WritesFamilies m x b → a ≡ b
families_one m x =
    if_one (says_any x) (wrapped_one m (both_one (family_one m Ipv4 x.v4) (family_one m Ipv6 x.v6)))
