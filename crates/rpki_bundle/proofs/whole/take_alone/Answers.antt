use Rattle.std.proofs.Common.{sym, subst}
use Rattle.rpki_bundle.specs.bcder_content.Contents.{ValuesLeft, Ended}
use Rattle.rpki_bundle.specs.bcder_content.Exact.{GivesAll}
use Rattle.rpki_bundle.specs.bcder_content.Here.{here}
use Rattle.rpki_bundle.proofs.of_bcder_content.Forests.{begin, next, stop, stop_all, done, there_next, absent_next}
use Rattle.rpki_bundle.proofs.of_bcder_content.Taking.{weaker, on_content}
use Rattle.rpki_bundle.proofs.of_bcder_content.Took.{ended_none}
use Rattle.rpki_bundle.specs.PartFields.{IsBundleAlone, parts_alone}
use Rattle.rpki_bundle.proofs.Beginning.{found_err, wants_on}
use Rattle.rpki_bundle.proofs.Reading.{end_lacks, ends_err}
use Rattle.rpki_bundle.proofs.whole.take_alone.Goals as goal

pub returns-in_err-parts-clause-reads : goal.returns-in_err-parts-clause-reads
returns-in_err-parts-clause-reads g c = ends_err _ _ _ _ _ _ c.from_residual.ensures.1 (stop _ _ _ _ (begin _ _) c.from_residual.ensures c.in_err-parts.ensures.reads)

pub returns-in_err-behind-clause-reads : goal.returns-in_err-behind-clause-reads
returns-in_err-behind-clause-reads g c = ends_err _ _ _ _ _ _ c.from_residual-in_err-behind.ensures.1 (stop_all _ _ _ _ (next (begin _ _) c.in_ok-parts.ensures.reads) c.from_residual-in_err-behind.ensures (weaker _ (λ h. end_lacks h.1) c.in_err-behind.ensures.skipped))

pub returns-in-Some-clause-reads : goal.returns-in-Some-clause-reads
returns-in-Some-clause-reads g c =
    let m = (here g.S.Source.rest c.args.cons.now).mode in
    let s = next (begin (IsBundleAlone m) _) c.in_ok-parts.ensures.reads in
    let value = there_next _ _ c.in-Some.is c.in_ok-behind.ensures.skipped in
    on_content _ (s.lacks (end_lacks (λ e. ended_none e value.took)))

pub returns-clause-reads : goal.returns-clause-reads
returns-clause-reads g c =
    let m = (here g.S.Source.rest c.args.cons.now).mode in
    let end = absent_next _ _ _ c.in_default.is c.in_ok-behind.ensures.skipped in
    subst (λ (v : ValuesLeft). GivesAll (IsBundleAlone m) (here g.S.Source.rest c.args.cons.now) (parts_alone c.in_ok-parts.parts) v × Ended v) (sym end.0) (done (next (begin _ _) c.in_ok-parts.ensures.reads), end.1)

pub returns-in_err-parts-clause-memory : goal.returns-in_err-parts-clause-memory
returns-in_err-parts-clause-memory g c = wants_on _ _ _ c.from_residual.ensures c.in_err-parts.ensures.begins

pub returns-in_err-behind-clause-memory : goal.returns-in_err-behind-clause-memory
returns-in_err-behind-clause-memory g c = found_err _ c.in_ok-parts.ensures.begins
