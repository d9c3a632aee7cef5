-- What is written of AS resources (RFC 3779 3.2.3), in their canonical form (3.2.3.4).
use Rattle.std.specs.Prelude.{◌≡◌, ℕ, List}
use Rattle.resources_as.specs.bcder_tree.declared.mode.Mode.{Mode}
use Rattle.resources_as.specs.bcder_tree.Tags.{context, null_tag, sequence_tag}
use Rattle.resources_as.specs.bcder_tree.Tree.{Tree, Trees, none, more}
use Rattle.resources_as.specs.bcder_primitive.Values.{IsNull}
use Rattle.resources_as.specs.bcder_primitive.Encoded.{NoTree, NoText, IsPlain, WritesPlain, IsWrapped, WritesWrapped, SpellsSome}
use Rattle.resources_as.specs.bcder_values.Choices.{nothing_spelled, nothing_one}
use Rattle.resources_as.specs.bcder_values.Lists.{AreAll, WritesAll, all_spelled, all_one}
use Rattle.resources_as.specs.bcder_values.Plains.{plain_spelled, plain_one}
use Rattle.resources_as.specs.bcder_primitive.Simple.{one_null}
use Rattle.resources_as.specs.bcder_values.Wraps.{wrapped_spelled, wrapped_one}
use Rattle.resources_as.specs.resources_chain.Sets.{Run}
use Rattle.resources_as.specs.resources_chain.Claims.{Choice}
pub use Rattle.resources_as.specs.resources_chain.Claims.{HasMaximal}
use Rattle.resources_as.specs.resources_chain.declared.choice.ResourcesChoice.TheVariants.{Missing, Inherit, Blocks}
use Rattle.resources_as.specs.Encodings.{IsAsResources, IsAsSet}
use Rattle.resources_asn.specs.Written.{AreAsBlock, WritesAsBlock, block_spelled, block_one}

-- A block for each of the maximal runs, ascending.
abbrev pub AreAsBlocks : List Run → Trees → Type 0
AreAsBlocks = AreAll AreAsBlock

abbrev pub WritesAsBlocks : Mode → List Run → List ℕ → Type 0
WritesAsBlocks m = WritesAll (WritesAsBlock m)

-- ASIdentifiers: `asnum` alone (3.2.3.1).
abbrev pub AreIdentifiers : (Trees → Type 0) → Trees → Type 0
AreIdentifiers P = IsWrapped sequence_tag (IsWrapped (context 0) P)

abbrev pub WritesIdentifiers : Mode → (List ℕ → Type 0) → List ℕ → Type 0
WritesIdentifiers m P = WritesWrapped m sequence_tag (WritesWrapped m (context 0) P)

-- Nothing where AS resources are missing; else `inherit`, or the blocks of the set.
abbrev pub AreAsResources : Choice → Trees → Type 0
AreAsResources Missing = NoTree
AreAsResources Inherit = AreIdentifiers (IsPlain null_tag (λ content. IsNull content tt))
AreAsResources (Blocks runs) = AreIdentifiers (IsWrapped sequence_tag (AreAsBlocks runs))

abbrev pub WritesAsResources : Mode → Choice → List ℕ → Type 0
WritesAsResources m Missing = NoText
WritesAsResources m Inherit =
    WritesIdentifiers m (WritesPlain m null_tag (λ content. IsNull content tt))
WritesAsResources m (Blocks runs) =
    WritesIdentifiers m (WritesWrapped m sequence_tag (WritesAsBlocks m runs))

-- One value, which is AS resources of the choice, and of no other.
pub record MeansJust (choice : Choice) (ts : Trees) : Type 0 where
  pub tree : Tree
  pub whole : ts ≡ more tree none
  pub is : IsAsResources tree choice
  pub only : (other : Choice) → IsAsResources tree other → other ≡ choice

-- A SEQUENCE of the blocks of a set, which is read as the same set.
pub record ReadsSet (runs : List Run) (ts : Trees) : Type 0 where
  pub tree : Tree
  pub alone : ts ≡ more tree none
  pub is : IsAsSet tree runs

-- What is written spells these values, and is always the same.
pub blocks_spelled : (m : Mode) (runs : List Run) (text : List ℕ) → WritesAsBlocks m runs text
    → SpellsSome m (AreAsBlocks runs) text
blocks_spelled m = all_spelled m (block_spelled m)

pub blocks_one : (m : Mode) (runs : List Run) (a b : List ℕ) → WritesAsBlocks m runs a
    → WritesAsBlocks m runs b → a ≡ b
blocks_one m = all_one (block_one m)

pub resources_spelled : (m : Mode) (choice : Choice) (text : List ℕ)
    → WritesAsResources m choice text → SpellsSome m (AreAsResources choice) text
resources_spelled m Missing = nothing_spelled m
resources_spelled m Inherit = wrapped_spelled m (wrapped_spelled m (plain_spelled m))
resources_spelled m (Blocks runs) =
    wrapped_spelled m (wrapped_spelled m (wrapped_spelled m (blocks_spelled m runs)))

pub resources_one : (m : Mode) (choice : Choice) (a b : List ℕ) → WritesAsResources m choice a
    → WritesAsResources m choice b → a ≡ b
resources_one m Missing = nothing_one
resources_one m Inherit = wrapped_one m (wrapped_one m (plain_one m (one_null tt)))
resources_one m (Blocks runs) = wrapped_one m (wrapped_one m (wrapped_one m (blocks_one m runs)))
