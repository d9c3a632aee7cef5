-- That a value has one meaning, as a list of blocks, as what is said of a family, and as IP resources of both (RFC 3779
-- 2.2.3).
use Rattle.std.proofs.Common.{◌≡◌, List, arith, ap, refl, sym, ◌∙◌, subst}
use Rattle.resources_ip.specs.bcder_tree.declared.mode.Mode.{Mode}
use Rattle.resources_ip.specs.bcder_tree.Tags.{null_tag, sequence_tag}
use Rattle.resources_ip.specs.bcder_tree.Tree.{Tree, Trees}
use Rattle.resources_ip.specs.bcder_primitive.Values.{IsNull}
use Rattle.resources_ip.specs.bcder_content.Grammar.{As, End, One, OneAll, OneOctets, Tagged, Then}
use Rattle.resources_ip_block.proofs.of_bcder_content.Choices.{universal_apart}
use Rattle.resources_ip_block.proofs.of_bcder_content.Unique.{as_one, as_tagged, end_one, inside_one, inside_tagged, many_one, octets_one, octets_tagged, one_of_one, same_trees, then_one}
use Rattle.resources_ip.specs.resources_chain.Claims.{Choice}
use Rattle.resources_ip.specs.resources_chain.Sets.{InRuns, IsRunsOf, Run}
use Rattle.resources_ip_block.proofs.of_resources_chain.SetLemmas.{one_list_of}
use Rattle.resources_ip.specs.resources_ip_prefix.declared.addr.AddressFamily.{AddressFamily}
use Rattle.resources_ip.specs.resources_ip_prefix.Encodings.{IsFamily}
use Rattle.resources_ip.specs.resources_ip_prefix.Meanings.{family_one}
use Rattle.resources_ip_block.specs.Meanings.{block_one}
use Rattle.resources_ip.specs.Encodings.{AreBlocks, AreFamilyFields, AreIpFamilies, FamilyChoice, FamilyChoices, Inherits, IsBlockList, IsIpAddrBlocks, IsIpChoice, choices_of, lists}

-- Blocks list one set.
blocks_one : {m : Mode} (family : AddressFamily) → OneAll (AreBlocks m family)
blocks_one family = record {
  one = λ ts x y p q.
      let same : p.runs ≡ q.runs = (many_one (block_one family)).one ts p.runs q.runs p.are q.are in
      one_list_of p.union (subst (λ (runs : List Run). IsRunsOf (InRuns runs) y)
      (sym same) q.union);
}

-- A value lists one set.
pub list_one : {m : Mode} (family : AddressFamily) → One (IsBlockList m family)
list_one family = inside_one (blocks_one family)

-- NULL says one thing.
null_one : OneOctets IsNull
null_one = record { one = λ content x y p q. refl }

-- `inherit` has the tag of NULL.
pub inherit_tagged : Tagged null_tag Inherits
inherit_tagged = as_tagged (octets_tagged _ _)

-- A list has the tag of a SEQUENCE.
pub list_tagged : {m : Mode} {family : AddressFamily}
    → Tagged sequence_tag (As (IsBlockList m family) lists)
list_tagged = as_tagged (inside_tagged _ _)

-- A value says one thing of a family.
pub choice_one : {m : Mode} (family : AddressFamily) → One (IsIpChoice m family)
choice_one family = one_of_one inherit_tagged list_tagged (universal_apart (λ e. omega arith))
    (as_one (octets_one null_one)) (as_one (list_one family))

-- The fields of a family are those of one.
pub one_family_in : {m : Mode} (ts : Trees) (x y : FamilyChoice) → AreFamilyFields m ts x
    → AreFamilyFields m ts y → x.family ≡ y.family
one_family_in {m} ts x y p q =
    let first = (same_trees (sym p.are.whole ∙ q.are.whole)).0 in
    family_one.one q.are.first x.family y.family
    (subst (λ (u : Tree). IsFamily m u x.family) first p.are.is) q.are.is

-- A family and what is said of it, by its parts.
same_choice : (x y : FamilyChoice) → x.family ≡ y.family → x.choice ≡ y.choice → x ≡ y
same_choice x y e f = ap (λ (family : AddressFamily). record
    { family = family; choice = x.choice }) e ∙ ap
    (λ (choice : Choice). record { family = y.family; choice = choice }) f

-- The fields of a family are read in one way.
fields_one : {m : Mode} → OneAll (AreFamilyFields m)
fields_one {m} = record {
  one = λ ts x y p q.
      let family : x.family ≡ y.family = one_family_in ts x y p q in
      let fields = subst (λ (f : AddressFamily). Then (IsFamily m) (Then (IsIpChoice m f) End) ts (f, (x.choice, tt))) family p.are in
      let same = (then_one family_one (then_one (choice_one y.family) end_one)).one ts (y.family, (x.choice, tt)) (y.family, (y.choice, tt)) fields q.are in
      same_choice x y family (ap (λ (z : AddressFamily × (Choice × Unit {0})). z.1.0) same);
}

-- Families, each at most once, are read in one way.
families_one : {m : Mode} → OneAll (AreIpFamilies m)
families_one {m} = record {
  one = λ ts x y p q.
      let same : p.families ≡ q.families =
      (many_one (inside_one fields_one)).one ts p.families q.families p.are q.are in
      p.says ∙ ap choices_of same ∙ sym q.says;
}

-- A value is IP resources of both families in one way.
pub one_of_families : (m : Mode) (t : Tree) (one other : FamilyChoices) → IsIpAddrBlocks m t one
    → IsIpAddrBlocks m t other → one ≡ other
one_of_families m = (inside_one families_one).one
