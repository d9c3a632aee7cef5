-- AS resources in an encoding: ASIdentifiers (RFC 3779 3.2.3).
use Rattle.std.specs.Prelude.{List}
use Rattle.resources_as.specs.bcder_tree.Tags.{context, null_tag, sequence_tag}
use Rattle.resources_as.specs.bcder_tree.Tree.{Tree, Trees}
use Rattle.resources_as.specs.bcder_primitive.Values.{IsNull}
use Rattle.resources_as.specs.bcder_content.Grammar.{Inside, OctetsOf, OneOf, As, End, Then, Many}
use Rattle.resources_as.specs.resources_chain.Sets.{Run, InRuns, IsRunsOf}
use Rattle.resources_as.specs.resources_chain.Claims.{Choice}
use Rattle.resources_as.specs.resources_chain.declared.choice.ResourcesChoice.TheVariants.{Inherit, Blocks}
use Rattle.resources_asn.specs.BlockEncodings.{IsAsBlock}

-- asIdsOrRanges SEQUENCE OF ASIdOrRange (3.2.3.4), in any order: they mean their union.
pub record AreBlocks (ts : Trees) (set : List Run) : Type 0 where
  pub runs : List Run
  pub are : Many IsAsBlock ts runs
  pub union : IsRunsOf (InRuns runs) set

abbrev pub IsAsSet : Tree → List Run → Type 0
IsAsSet = Inside sequence_tag AreBlocks

abbrev pub lists : List Run → Choice
lists set = Blocks set

abbrev pub ListsAs : Tree → Choice → Type 0
ListsAs = As IsAsSet lists

-- inherit NULL (3.2.3.3).
abbrev pub inherits : Unit {0} → Choice
inherits x = Inherit

abbrev pub InheritsAs : Tree → Choice → Type 0
InheritsAs = As (OctetsOf null_tag IsNull) inherits

-- ASIdentifierChoice ::= CHOICE { inherit NULL, asIdsOrRanges SEQUENCE OF ASIdOrRange } (3.2.3.2).
abbrev pub IsAsChoice : Tree → Choice → Type 0
IsAsChoice = OneOf InheritsAs ListsAs

-- ASIdentifiers ::= SEQUENCE { asnum [0] EXPLICIT ASIdentifierChoice } (3.2.3.1); RPKI has no `rdi` (RFC 6487 4.8.11).
abbrev pub only_choice : Choice → Choice × Unit {0}
only_choice choice = (choice, tt)

abbrev pub AreAsIdentifiers : Trees → (Choice × Unit {0}) × Unit {0} → Type 0
AreAsIdentifiers = Then (Inside (context 0) (Then IsAsChoice End)) End

abbrev pub innermost : (Choice × Unit {0}) × Unit {0} → Choice
innermost x = x.0.0

abbrev pub IsAsResources : Tree → Choice → Type 0
IsAsResources = As (Inside sequence_tag AreAsIdentifiers) innermost
