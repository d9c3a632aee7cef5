-- What is written of IP resources (RFC 3779 2.2.3), in their canonical form (2.2.3.6).
use Rattle.std.specs.Prelude.{◌≡◌, ℕ, List}
use Rattle.resources_ip.specs.bcder_tree.declared.mode.Mode.{Mode}
use Rattle.resources_ip.specs.bcder_tree.Tags.{null_tag, sequence_tag}
use Rattle.resources_ip.specs.bcder_tree.Tree.{Tree, Trees, none, more}
use Rattle.resources_ip.specs.bcder_primitive.Values.{IsNull}
use Rattle.resources_ip.specs.bcder_primitive.Encoded.{NoTree, NoText, IsPlain, WritesPlain, IsWrapped, WritesWrapped, SpellsSome}
use Rattle.resources_ip.specs.bcder_primitive.Simple.{one_null}
use Rattle.resources_ip.specs.bcder_values.Choices.{nothing_spelled, nothing_one}
use Rattle.resources_ip.specs.bcder_values.Lists.{AreAll, WritesAll, all_spelled, all_one}
use Rattle.resources_ip.specs.bcder_values.Plains.{plain_spelled, plain_one}
use Rattle.resources_ip.specs.bcder_values.Wraps.{wrapped_spelled, wrapped_one}
use Rattle.resources_ip.specs.resources_chain.Sets.{Run, AreMaximal}
use Rattle.resources_ip.specs.resources_chain.Claims.{Choice}
use Rattle.resources_ip.specs.resources_chain.declared.choice.ResourcesChoice.TheVariants.{Missing, Inherit, Blocks}
use Rattle.resources_ip.specs.resources_ip_prefix.declared.addr.AddressFamily.{AddressFamily}
use Rattle.resources_ip.specs.resources_ip_prefix.declared.addr.AddressFamily.TheVariants.{Ipv4, Ipv6}
use Rattle.resources_ip_block.specs.WrittenBlock.{AreIpBlock, WritesIpBlock, block_spelled, block_one}
use Rattle.resources_ip.specs.Encodings.{IsBlockList, IsIpChoice}
use Rattle.resources_ip.specs.WholeSets.{AreWhole}

-- addressesOrRanges: a block for each of the maximal runs, ascending (2.2.3.6).
abbrev pub AreIpBlocks : Mode → List Run → Trees → Type 0
AreIpBlocks m = AreAll (AreIpBlock m)

abbrev pub WritesIpBlocks : Mode → List Run → List ℕ → Type 0
WritesIpBlocks m = WritesAll (WritesIpBlock m)

abbrev pub AreIpList : Mode → List Run → Trees → Type 0
AreIpList m runs = IsWrapped sequence_tag (AreIpBlocks m runs)

abbrev pub WritesIpList : Mode → List Run → List ℕ → Type 0
WritesIpList m runs = WritesWrapped m sequence_tag (WritesIpBlocks m runs)

-- IPAddressChoice: nothing where a family is missing, else `inherit`, or the list (2.2.3.4).
abbrev pub AreIpResources : Mode → Choice → Trees → Type 0
AreIpResources m Missing = NoTree
AreIpResources m Inherit = IsPlain null_tag (λ content. IsNull content tt)
AreIpResources m (Blocks runs) = AreIpList m runs

abbrev pub WritesIpResources : Mode → Choice → List ℕ → Type 0
WritesIpResources m Missing = NoText
WritesIpResources m Inherit = WritesPlain m null_tag (λ content. IsNull content tt)
WritesIpResources m (Blocks runs) = WritesIpList m runs

-- A set that is listed is so by its maximal runs, and of IPv4 over whole addresses.
abbrev pub FitsSet : AddressFamily → List Run → Type 0
FitsSet Ipv4 runs = AreMaximal runs × AreWhole runs
FitsSet Ipv6 runs = AreMaximal runs

abbrev pub FitsChoice : AddressFamily → Choice → Type 0
FitsChoice family Missing = Unit {0}
FitsChoice family Inherit = Unit {0}
FitsChoice family (Blocks runs) = FitsSet family runs

-- The values are one, which is read as the same set, the same choice.
pub record ReadsList (m : Mode) (family : AddressFamily) (runs : List Run) (ts : Trees)
    : Type 0 where
  pub tree : Tree
  pub alone : ts ≡ more tree none
  pub is : IsBlockList m family tree runs

pub record ReadsChoice (m : Mode) (family : AddressFamily) (choice : Choice) (ts : Trees)
    : Type 0 where
  pub tree : Tree
  pub alone : ts ≡ more tree none
  pub is : IsIpChoice m family tree choice

-- What is written spells these values, and is always the same.
pub list_spelled : (m : Mode) (runs : List Run) (text : List ℕ) → WritesIpList m runs text
    → SpellsSome m (AreIpList m runs) text
list_spelled m runs = wrapped_spelled m (all_spelled m (block_spelled m) runs)

pub list_one : (m : Mode) (runs : List Run) (a b : List ℕ) → WritesIpList m runs a
    → WritesIpList m runs b → a ≡ b
list_one m runs = wrapped_one m (all_one (block_one m) runs)

pub resources_spelled : (m : Mode) (choice : Choice) (text : List ℕ)
    → WritesIpResources m choice text → SpellsSome m (AreIpResources m choice) text
resources_spelled m Missing = nothing_spelled m
resources_spelled m Inherit = plain_spelled m
resources_spelled m (Blocks runs) = list_spelled m runs

pub resources_one : (m : Mode) (choice : Choice) (a b : List ℕ) → WritesIpResources m choice a
    → WritesIpResources m choice b → a ≡ b
resources_one m Missing = nothing_one
resources_one m Inherit = plain_one m (one_null tt)
resources_one m (Blocks runs) = list_one m runs
