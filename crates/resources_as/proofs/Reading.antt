-- What reading AS resources rests on: a list of blocks is read by its set.
use Rattle.std.proofs.Common.{◌≡◌, List, Result, Ok, Err, subst, sym}
use Rattle.std.specs.Result.{IsErr, IsErrAnd}
use Rattle.resources_as.specs.bcder_source.Errors.{OnContent}
use Rattle.resources_as.specs.bcder_content.Contents.{ValuesLeft}
use Rattle.resources_as.specs.bcder_content.Exact.{GivesAll, LacksAll, ReadsAllAs}
use Rattle.resources_as.specs.bcder_source.declared.error.DecodeError.{DecodeError}
use Rattle.resources_as.proofs.of_bcder_content.Taking.{weaker}
use Rattle.resources_as.specs.bcder_content.Grammar.{Many}
use Rattle.resources_as.specs.resources_chain.Sets.{Run, InRuns, IsRunsOf}
use Rattle.resources_asn.specs.BlockEncodings.{IsAsBlock}
use Rattle.resources_as.specs.Encodings.{AreBlocks}

-- Blocks mean their union.
pub blocks_stop : {C E : Type 0} (f : C → List Run) (v w : ValuesLeft) (r : Result C (DecodeError E)) (e : DecodeError E) → IsErr r × IsErrAnd r (λ x. x ≡ e) → OnContent e (LacksAll (Many IsAsBlock) v) → ReadsAllAs f AreBlocks v r w
blocks_stop f v w (Ok y) e a l = absurd a.1
blocks_stop {E = E} f v w (Err x) e a l = subst (λ (z : DecodeError E). OnContent z (LacksAll AreBlocks v)) (sym a.1) (weaker e (λ lacks. record { none = λ ts set p whole. lacks.none ts p.runs p.are whole }) l)

pub blocks_given : (runs : List Run) {v w : ValuesLeft} {set : List Run} → GivesAll (Many IsAsBlock) v runs w → IsRunsOf (InRuns runs) set → GivesAll AreBlocks v set w
blocks_given runs g union = record {
  trees = g.trees;
  took = g.took;
  is = record { runs = runs; are = g.is; union = union };
  only = λ on. record { none = λ ts set p whole. (g.only on).none ts p.runs p.are whole };
}
