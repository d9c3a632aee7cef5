use Rattle.std.proofs.Common.{◌≡◌, Result, Ok, Err, sym, subst}
use Rattle.std.specs.Result.{IsErr, IsErrAnd}
use Rattle.resources_asn.specs.bcder_tree.Tree.{Tree}
use Rattle.resources_asn.specs.bcder_source.Errors.{OnContent}
use Rattle.resources_asn.specs.bcder_source.declared.error.DecodeError.{DecodeError}
use Rattle.resources_asn.specs.bcder_content.Contents.{ValuesLeft}
use Rattle.resources_asn.specs.bcder_content.Exact.{Lacks, ReadsAs}
use Rattle.resources_asn.proofs.of_bcder_content.Choices.{as_lacks}
use Rattle.resources_asn.proofs.of_bcder_content.Taking.{weaker}
use Rattle.resources_asn.specs.Encodings.{whichever}
use Rattle.resources_asn.proofs.asn.Asn.skip_in.Goals as goal

-- A refusal that is passed on is one of whatever is told.
passed_on : {A B E : Type 0} (f : A → B) (P : Tree → B → Type 0) (old new : ValuesLeft) (r : Result A (DecodeError E)) (e : DecodeError E) → IsErr r × IsErrAnd r (λ x. x ≡ e) → OnContent e (Lacks P old) → ReadsAs f P old r new
passed_on f P old new (Ok x) e is lacks = let wrong = is.0 in absurd cc
passed_on f P old new (Err x) e is lacks = subst (λ (y : DecodeError _). OnContent y (Lacks P old)) (sym is.1) lacks

pub returns-in_err-_number-clause-reads : goal.returns-in_err-_number-clause-reads
returns-in_err-_number-clause-reads g c =
    passed_on _ _ _ _ _ _ c.from_residual.ensures (weaker _ (as_lacks whichever) c.in_err-_number.ensures.reads)
