-- What is written of ranges and blocks (RFC 3779 2.2.3).
use Rattle.std.specs.Prelude.{◌≡◌, ℕ, ◌≤◌}
use Rattle.resources_ip_block.specs.bcder_tree.declared.mode.Mode.{Mode}
use Rattle.resources_ip_block.specs.bcder_tree.Tags.{sequence_tag}
use Rattle.resources_ip_block.specs.bcder_tree.Tree.{Tree, Trees, none, more}
use Rattle.resources_ip_block.specs.bcder_octets.BitContents.{WritesBits, bit_string_tag}
use Rattle.resources_ip_block.specs.bcder_values.declared.choice.Choice2.{Choice2}
use Rattle.resources_ip_block.specs.bcder_values.declared.choice.Choice2.TheVariants.{One, Two}
use Rattle.resources_ip_block.specs.bcder_values.declared.constructed.Constructed.{Constructed}
use Rattle.resources_ip_block.specs.bcder_primitive.declared.written.primitive.Primitive.{Primitive}
use Rattle.resources_ip_block.specs.bcder_values.Choices.{AreEither}
use Rattle.resources_ip_block.specs.bcder_primitive.Encoded.{AreBoth, IsPlain, IsWrapped}
use Rattle.resources_ip_block.specs.resources_chain.Sets.{Run}
use Rattle.resources_ip_prefix.specs.declared.addr.AddressFamily.{AddressFamily}
use Rattle.resources_ip_prefix.specs.declared.addr.AddressFamily.TheVariants.{Ipv4, Ipv6}
use Rattle.resources_ip_prefix.specs.declared.prefix.Prefix.{Prefix}
use Rattle.resources_ip_prefix.specs.Prefix.{prefix_len, run_of_prefix}
use Rattle.resources_ip_prefix.specs.Prefixes.{first_of, last_of, prefix_run}
use Rattle.resources_ip_prefix.specs.Written.{spelled_bits}
use Rattle.resources_ip_block.specs.BlockEncodings.{IsBlock}
use Rattle.resources_ip_prefix.specs.Whole.{IsWhole}

-- The bits of a first address, without the zeros at its end (2.2.3.9).
pub record IsShortestMin (first : ℕ) (p : Prefix) : Type 0 where
  pub begins : (run_of_prefix p).first ≡ first
  pub shortest : (len : ℕ) → len ≤ 128 → first_of len first ≡ first → prefix_len p ≤ len

-- Those of a last one, without the ones at its end (2.2.3.9).
pub record IsShortestMax (last : ℕ) (p : Prefix) : Type 0 where
  pub ends : (run_of_prefix p).last ≡ last
  pub shortest : (len : ℕ) → len ≤ 128 → last_of len last ≡ last → prefix_len p ≤ len

-- A range, as it is written.
abbrev pub RangeValue : Type 0
RangeValue = Constructed (Primitive Prefix × Primitive Prefix)

-- A SEQUENCE of the shortest bit strings for the ends of a run.
pub record EncodesRange (run : Run) (x : RangeValue) : Type 0 where
  pub tag_is : x.tag ≡ sequence_tag
  pub min_tag : x.inner.0.tag ≡ bit_string_tag
  pub max_tag : x.inner.1.tag ≡ bit_string_tag
  pub min_is : IsShortestMin run.first x.inner.0.content
  pub max_is : IsShortestMax run.last x.inner.1.content

-- A run as a prefix where it is one, and else as a range (2.2.3.7).
abbrev pub EncodesBlock : Run → Choice2 (Primitive Prefix) RangeValue → Type 0
EncodesBlock run (One x) = (x.tag ≡ bit_string_tag) × (run_of_prefix x.content ≡ run)
EncodesBlock run (Two x) =
    EncodesRange run x
    × ((addr len : ℕ) → len ≤ 128 → first_of len addr ≡ addr → ¬ (prefix_run addr len ≡ run))

-- The trees that are written (X.690 8.6, 8.9): one value of a prefix, of a range, of a block.
abbrev pub PrefixTrees : Mode → Primitive Prefix → Trees → Type 0
PrefixTrees m x = IsPlain x.tag (WritesBits m (spelled_bits x.content))

abbrev pub RangeTrees : Mode → RangeValue → Trees → Type 0
RangeTrees m x = IsWrapped x.tag (AreBoth (PrefixTrees m x.inner.0) (PrefixTrees m x.inner.1))

abbrev pub BlockTrees : Mode → Choice2 (Primitive Prefix) RangeValue → Trees → Type 0
BlockTrees m = AreEither (PrefixTrees m) (RangeTrees m)

-- A run that a family can tell: of IPv4 whole addresses.
abbrev pub FitsRun : AddressFamily → Run → Type 0
FitsRun Ipv4 run = IsWhole run
FitsRun Ipv6 run = Unit {0}

-- The trees are one, which is read as a block of the run.
pub record ReadsBlock (m : Mode) (family : AddressFamily) (run : Run) (ts : Trees) : Type 0 where
  pub tree : Tree
  pub alone : ts ≡ more tree none
  pub is : IsBlock m family tree run
