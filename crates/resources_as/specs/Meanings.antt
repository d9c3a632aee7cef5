-- That a value has one meaning, as a set of AS numbers and as AS resources (RFC 3779 3.2.3).
use Rattle.std.proofs.Common.{◌≡◌, List, refl, sym, subst, arith}
use Rattle.resources_as.specs.bcder_tree.Tags.{null_tag, sequence_tag}
use Rattle.resources_as.specs.bcder_primitive.Values.{IsNull}
use Rattle.resources_as.specs.bcder_content.Grammar.{One, OneAll, OneOctets, Tagged}
use Rattle.resources_asn.proofs.of_bcder_content.Choices.{universal_apart}
use Rattle.resources_asn.proofs.of_bcder_content.Unique.{as_one, as_tagged, end_one, inside_one, inside_tagged, many_one, octets_one, octets_tagged, one_of_one, then_one}
use Rattle.resources_as.specs.resources_chain.Sets.{Run, InRuns, IsRunsOf}
use Rattle.resources_asn.proofs.of_resources_chain.SetLemmas.{one_list_of}
use Rattle.resources_asn.specs.Meanings.{block_one}
use Rattle.resources_as.specs.Encodings.{AreBlocks, InheritsAs, IsAsChoice, IsAsResources, IsAsSet, ListsAs}

-- Blocks list one set.
blocks_one : OneAll AreBlocks
blocks_one = record {
  one = λ ts x y p q.
      let same : p.runs ≡ q.runs = (many_one block_one).one ts p.runs q.runs p.are q.are in
      one_list_of p.union (subst (λ (runs : List Run). IsRunsOf (InRuns runs) y)
      (sym same) q.union);
}

-- A value lists one set.
pub set_one : One IsAsSet
set_one = inside_one blocks_one

-- NULL says one thing.
null_one : OneOctets IsNull
null_one = record { one = λ content x y p q. refl }

-- `inherit` has the tag of NULL.
pub inherit_tagged : Tagged null_tag InheritsAs
inherit_tagged = as_tagged (octets_tagged _ _)

-- A list has the tag of a SEQUENCE.
pub list_tagged : Tagged sequence_tag ListsAs
list_tagged = as_tagged (inside_tagged _ _)

-- A value says one thing.
choice_one : One IsAsChoice
choice_one = one_of_one inherit_tagged list_tagged (universal_apart (λ e. omega arith))
    (as_one (octets_one null_one)) (as_one set_one)

-- A value is AS resources in one way.
pub resources_one : One IsAsResources
resources_one = as_one (inside_one (then_one (inside_one (then_one choice_one end_one)) end_one))
