-- What is written of AS resources means just these.
use Rattle.std.proofs.Common.{◌≢◌, List, Result, Ok, Err, refl, sym, subst, inl, inr}
use Rattle.std.specs.Prelude.{IfOk}
use Rattle.resources_as.specs.bcder_tree.Tags.{context, null_tag, sequence_tag}
use Rattle.resources_as.specs.bcder_tree.Tree.{Tree, Trees, primitive, constructed, none}
use Rattle.resources_as.specs.bcder_primitive.Values.{IsNull}
use Rattle.resources_as.specs.bcder_source.declared.error.DecodeError.{DecodeError}
use Rattle.resources_as.specs.bcder_content.Contents.{ValuesLeft}
use Rattle.resources_as.specs.bcder_content.Exact.{ReadsAs}
use Rattle.resources_as.specs.bcder_primitive.Encoded.{IsPlain, IsWrapped}
use Rattle.resources_as.specs.resources_chain.Sets.{Run, AreMaximal}
use Rattle.resources_as.specs.resources_chain.Claims.{Choice}
use Rattle.resources_as.specs.resources_chain.declared.choice.ResourcesChoice.TheVariants.{Missing, Inherit, Blocks}
use Rattle.resources_asn.proofs.Again.{IsOne, blocks_are}
use Rattle.resources_as.specs.Encodings.{IsAsSet, IsAsChoice, IsAsResources}
use Rattle.resources_as.specs.Meanings.{resources_one}
use Rattle.resources_as.specs.Written.{AreAsBlocks, AreIdentifiers, AreAsResources, HasMaximal, MeansJust, ReadsSet}

set_is : (runs : List Run) (ts : Trees) → AreMaximal runs → IsWrapped sequence_tag (AreAsBlocks runs) ts → IsOne IsAsSet runs ts
set_is runs ts m p = record {
  tree = constructed sequence_tag p.values;
  whole = p.whole;
  is = record {
    values = p.values;
    whole = refl;
    is = record {
      runs = runs;
      are = record { cases = blocks_are runs p.values m p.is };
      union = record { maximal = m; same = λ n. (λ i. i, λ i. i) };
    };
  };
}

null_is : (ts : Trees) → IsPlain null_tag (λ content. IsNull content tt) ts → IsOne IsAsChoice Inherit ts
null_is ts p = record {
  tree = primitive null_tag p.content;
  whole = p.whole;
  is = record { cases = inl (record { x = tt; is = record { content = p.content; whole = refl; is = p.is }; means = refl }) };
}

list_is : (runs : List Run) (ts : Trees) → AreMaximal runs → IsWrapped sequence_tag (AreAsBlocks runs) ts → IsOne IsAsChoice (Blocks runs) ts
list_is runs ts m p = let a = set_is runs ts m p in record { tree = a.tree; whole = a.whole; is = record { cases = inr (record { x = runs; is = a.is; means = refl }) } }

identifiers_are : (P : Trees → Type 0) (choice : Choice) → ((ts : Trees) → P ts → IsOne IsAsChoice choice ts) → (ts : Trees) → AreIdentifiers P ts → IsOne IsAsResources choice ts
identifiers_are P choice inner ts p =
    let a = inner p.is.values p.is.is in
    record {
      tree = constructed sequence_tag p.values;
      whole = p.whole;
      is = record {
        x = ((choice, tt), tt);
        is = record {
          values = p.values;
          whole = refl;
          is = record {
            first = constructed (context 0) p.is.values;
            others = none;
            whole = p.is.whole;
            is = record { values = p.is.values; whole = refl; is = record { first = a.tree; others = none; whole = a.whole; is = a.is; rest = record { ended = refl } } };
            rest = record { ended = refl };
          };
        };
        means = refl;
      };
    }

just : (choice : Choice) (ts : Trees) → IsOne IsAsResources choice ts → MeansJust choice ts
just choice ts a = record { tree = a.tree; whole = a.whole; is = a.is; only = λ other p. resources_one.one a.tree other choice p a.is }

pub means_just : (choice : Choice) (ts : Trees) → HasMaximal choice → choice ≢ Missing → AreAsResources choice ts → MeansJust choice ts
means_just Missing ts m there p = absurd (there refl)
means_just Inherit ts m there p = just Inherit ts (identifiers_are (IsPlain null_tag (λ content. IsNull content tt)) Inherit null_is ts p)
means_just (Blocks runs) ts m there p = just (Blocks runs) ts (identifiers_are (IsWrapped sequence_tag (AreAsBlocks runs)) (Blocks runs) (λ us q. list_is runs us m q) ts p)

-- A SEQUENCE of the blocks is read as the same set, and a set that is read can be written.
pub set_again : (runs : List Run) (ts : Trees) → AreMaximal runs → IsWrapped sequence_tag (AreAsBlocks runs) ts → ReadsSet runs ts
set_again runs ts m p = let a = set_is runs ts m p in record { tree = a.tree; alone = a.whole; is = a.is }

pub set_fits : (t : Tree) (runs : List Run) → IsAsSet t runs → AreMaximal runs
set_fits t runs p = p.is.union.maximal

choice_fits : (t : Tree) (choice : Choice) → IsAsChoice t choice → HasMaximal choice
choice_fits t choice p = elim p.cases [
  | inl q ↦ subst (λ (c : Choice). HasMaximal c) (sym q.means) tt
  | inr q ↦ subst (λ (c : Choice). HasMaximal c) (sym q.means) (set_fits t q.x q.is)
]

pub resources_fit : (t : Tree) (choice : Choice) → IsAsResources t choice → HasMaximal choice
resources_fit t choice p = subst (λ (c : Choice). HasMaximal c) (sym p.means) (choice_fits p.is.is.is.is.first p.x.0.0 p.is.is.is.is.is)

-- So can what a reader gives.
pub given_set : {E : Type 0} (v w : ValuesLeft) (r : Result (List Run) (DecodeError E)) → ReadsAs (λ s. s) IsAsSet v r w → IfOk r AreMaximal
given_set v w (Ok runs) g = set_fits g.tree runs g.is
given_set v w (Err e) g = tt

pub given_resources : {E : Type 0} (v w : ValuesLeft) (r : Result Choice (DecodeError E)) → ReadsAs (λ r. r) IsAsResources v r w → IfOk r HasMaximal
given_resources v w (Ok choice) g = resources_fit g.tree choice g.is
given_resources v w (Err e) g = tt
