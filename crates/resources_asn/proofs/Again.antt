-- What is written of blocks of AS numbers means just these.
use Rattle.std.proofs.Common.{◌≡◌, ℕ, ◌≤◌, ◌==◌, Bool, true, false, List, [], ◌∷◌, refl, sym, ap, ◌∙◌, inl, inr}
use Rattle.std.proofs.lemmas.Bool.{eqb-true}
use Rattle.resources_asn.specs.bcder_tree.Tags.{integer_tag, sequence_tag}
use Rattle.resources_asn.specs.bcder_tree.Tree.{Tree, Trees, primitive, constructed, none, more}
use Rattle.resources_asn.specs.bcder_content.Grammar.{As, ManyCases}
use Rattle.resources_asn.specs.bcder_primitive.Encoded.{AreBoth, joined}
use Rattle.resources_asn.specs.bcder_values.Lists.{AreAll}
use Rattle.resources_asn.specs.resources_chain.Sets.{Run, AreMaximal}
use Rattle.resources_asn.specs.resources_chain.Same.{run_is}
use Rattle.resources_asn.specs.Encodings.{IsAsId}
use Rattle.resources_asn.specs.BlockEncodings.{AreEnds, IsAsRange, IsAsBlock, alone, from_to}
use Rattle.resources_asn.specs.Written.{AreAsId, AreAsRange, AreIdOrRange, AreAsBlock}

-- One value of the grammar with that meaning.
pub record IsOne {A : Type 0} (Q : Tree → A → Type 0) (x : A) (ts : Trees) : Type 0 where
  pub tree : Tree
  pub whole : ts ≡ more tree none
  pub is : Q tree x

id_is : (n : ℕ) (ts : Trees) → AreAsId n ts → IsOne IsAsId n ts
id_is n ts p = record { tree = primitive integer_tag p.content; whole = p.whole; is = record { content = p.content; whole = refl; is = p.is.is } }

ends_are : (r : Run) (ts : Trees) → AreBoth (AreAsId r.first) (AreAsId r.last) ts → AreEnds ts (r.first, (r.last, tt))
ends_are r ts p =
    let a = id_is r.first p.first p.is_first in
    let b = id_is r.last p.second p.is_second in
    let both : joined p.first p.second ≡ more a.tree (more b.tree none) = ap (λ (x : Trees). joined x p.second) a.whole ∙ ap (λ (x : Trees). more a.tree x) b.whole in
    record {
      first = a.tree;
      others = more b.tree none;
      whole = p.whole ∙ both;
      is = a.is;
      rest = record { first = b.tree; others = none; whole = refl; is = b.is; rest = record { ended = refl } };
    }

range_is : (r : Run) (ts : Trees) → r.first ≤ r.last → AreAsRange r ts → IsOne (As IsAsRange from_to) r ts
range_is r ts order p = record {
  tree = constructed sequence_tag p.values;
  whole = p.whole;
  is = record {
    x = (r.first, (r.last, tt));
    is = record { values = p.values; whole = refl; is = record { are = ends_are r p.values p.is; ordered = order } };
    means = refl;
  };
}

either_is : (is_one : Bool) (r : Run) (ts : Trees) → (r.first == r.last) ≡ is_one → r.first ≤ r.last → AreIdOrRange is_one r ts → IsOne IsAsBlock r ts
either_is true r ts e order p =
    let a = id_is r.first ts p in
    let same : r ≡ alone r.first = run_is refl (sym (eqb-true r.first r.last e)) in
    record { tree = a.tree; whole = a.whole; is = record { cases = inl (record { x = r.first; is = a.is; means = same }) } }
either_is false r ts e order p = let a = range_is r ts order p in record { tree = a.tree; whole = a.whole; is = record { cases = inr a.is } }

-- A block that is written is one of its numbers.
pub block_is : (r : Run) (ts : Trees) → r.first ≤ r.last → AreAsBlock r ts → IsOne IsAsBlock r ts
block_is r ts order p = either_is (r.first == r.last) r ts refl order p

-- Blocks that are written are those of the list.
pub blocks_are : (runs : List Run) (ts : Trees) → AreMaximal runs → AreAll AreAsBlock runs ts → ManyCases IsAsBlock ts runs
blocks_are [] ts m p = p
blocks_are (r ∷ runs) ts m p =
    let a = block_is r p.first m.0 p.is_first in
    (a.tree, p.second, p.whole ∙ ap (λ (x : Trees). joined x p.second) a.whole, a.is, blocks_are runs p.second m.2 p.is_second)
