-- What is written of IP resources is read again as the same.
use Rattle.std.proofs.Common.{◌≢◌, List, [], ◌∷◌, inl, inr, refl, ap, ◌∙◌}
use Rattle.resources_ip.specs.bcder_tree.declared.mode.Mode.{Mode}
use Rattle.resources_ip.specs.bcder_tree.Tags.{null_tag, sequence_tag}
use Rattle.resources_ip.specs.bcder_tree.Tree.{Trees, primitive, constructed}
use Rattle.resources_ip.specs.bcder_content.Grammar.{ManyCases}
use Rattle.resources_ip.specs.bcder_primitive.Encoded.{joined}
use Rattle.resources_ip.specs.resources_chain.Claims.{Choice}
use Rattle.resources_ip.specs.resources_chain.Sets.{Run, AreMaximal}
use Rattle.resources_ip.specs.resources_chain.declared.choice.ResourcesChoice.TheVariants.{Missing, Inherit, Blocks}
use Rattle.resources_ip.specs.resources_ip_prefix.declared.addr.AddressFamily.{AddressFamily}
use Rattle.resources_ip.specs.resources_ip_prefix.declared.addr.AddressFamily.TheVariants.{Ipv4, Ipv6}
use Rattle.resources_ip_block.specs.BlockEncodings.{IsBlock}
use Rattle.resources_ip_block.specs.Written.{FitsRun}
use Rattle.resources_ip_block.proofs.Again.{block_again}
use Rattle.resources_ip.specs.Written.{AreIpBlocks, AreIpList, AreIpResources, FitsChoice, FitsSet, ReadsChoice, ReadsList}
use Rattle.resources_ip.proofs.WholeLemmas.{whole_step}

-- The first run fits, and so do the others.
fits_first : (family : AddressFamily) (r : Run) (runs : List Run) → FitsSet family (r ∷ runs) → FitsRun family r
fits_first Ipv4 r runs f = ((whole_step r runs f.0).0 f.1).0
fits_first Ipv6 r runs f = tt

fits_rest : (family : AddressFamily) (r : Run) (runs : List Run) → FitsSet family (r ∷ runs) → FitsSet family runs
fits_rest Ipv4 r runs f = (f.0.2, ((whole_step r runs f.0).0 f.1).1)
fits_rest Ipv6 r runs f = f.2

fits_maximal : (family : AddressFamily) (runs : List Run) → FitsSet family runs → AreMaximal runs
fits_maximal Ipv4 runs f = f.0
fits_maximal Ipv6 runs f = f

blocks_again : (m : Mode) (family : AddressFamily) (runs : List Run) (ts : Trees) → FitsSet family runs → AreIpBlocks m runs ts → ManyCases (IsBlock m family) ts runs
blocks_again m family [] ts fits p = p
blocks_again m family (r ∷ runs) ts fits p =
    let read = block_again m family r p.is_first.value p.first (fits_maximal family (r ∷ runs) fits).0 (fits_first family r runs fits) p.is_first.encodes p.is_first.are in
    (read.tree, p.second, p.whole ∙ ap (λ (us : Trees). joined us p.second) read.alone, read.is, blocks_again m family runs p.second (fits_rest family r runs fits) p.is_second)

pub list_again : (m : Mode) (family : AddressFamily) (runs : List Run) (ts : Trees) → FitsSet family runs → AreIpList m runs ts → ReadsList m family runs ts
list_again m family runs ts fits p = record {
  tree = constructed sequence_tag p.values;
  alone = p.whole;
  is = record {
    values = p.values;
    whole = refl;
    is = record {
      runs = runs;
      are = record { cases = blocks_again m family runs p.values fits p.is };
      union = record { maximal = fits_maximal family runs fits; same = λ n. (λ i. i, λ i. i) };
    };
  };
}

pub choice_again : (m : Mode) (family : AddressFamily) (choice : Choice) (ts : Trees) → FitsChoice family choice → choice ≢ Missing → AreIpResources m choice ts → ReadsChoice m family choice ts
choice_again m family Missing ts fits there p = absurd (there refl)
choice_again m family Inherit ts fits there p = record {
  tree = primitive null_tag p.content;
  alone = p.whole;
  is = record { cases = inl (record { x = tt; is = record { content = p.content; whole = refl; is = p.is }; means = refl }) };
}
choice_again m family (Blocks runs) ts fits there p =
    let read = list_again m family runs ts fits p in
    record { tree = read.tree; alone = read.alone; is = record { cases = inr (record { x = runs; is = read.is; means = refl }) } }
