use Rattle.std.proofs.Common.{rules, IsTrue, refl, subst}
use Rattle.bcder_octets.specs.bcder_primitive.Plain.{OctetsLeft, plain}
use Rattle.bcder_octets.proofs.of_bcder_primitive.Primitives.{through, weaker}
use Rattle.bcder_octets.specs.Parts.{FitsWhole}
use Rattle.bcder.proofs.of_bcder_content.Memories.{wanted}
use Rattle.bcder.proofs.of_bcder_content.Wholes.{lacks_any, has_whole}
use Rattle.bcder.proofs.of_bcder_content.Wants.{no_want_through}
use Rattle.bcder.specs.Restricted.{IsWholeText}
use Rattle.bcder.proofs.string.reading.take_whole.Goals as goal

pub returns-in_err-count-clause-reads : goal.returns-in_err-count-clause-reads
returns-in_err-count-clause-reads g c =
    let old = plain g.S.Source.rest c.args.prim.now in
    let P = IsWholeText g.L.CharSet.has g.L.CharSet.spell old.mode in
    through (λ octets. octets) P old _ c.from_residual.result _ c.from_residual.ensures.0 c.from_residual.ensures.1
    (weaker _ (lacks_any P old) c.in_err-count.ensures.refused)

pub returns-in_err-count-clause-memory : goal.returns-in_err-count-clause-memory
returns-in_err-count-clause-memory g c = no_want_through _ _ c.from_residual.result _ c.from_residual.ensures.0 c.from_residual.ensures.1 c.in_err-count.ensures.refused

pub returns-in-Err-clause-memory : goal.returns-in-Err-clause-memory
returns-in-Err-clause-memory g c =
    let t : IsTrue c.fits_whole-fits.result = search rules in
    let u : IsTrue c.is_text-is.result = search rules in
    let had = c.in_ok-count.ensures in
    let fits = subst (λ (v : OctetsLeft). FitsWhole v.mode c.front-octets.result.now) had.same (c.fits_whole-fits.ensures.0 t) in
    let octets = c.front-octets.result.now in
    let whole : IsWholeText g.L.CharSet.has g.L.CharSet.spell c.args.prim.now.mode octets octets = record { whole = record { same = refl; fits = fits }; text = c.is_text-is.ensures.0 u } in
    wanted c.in-Err.error (has_whole (IsWholeText g.L.CharSet.has g.L.CharSet.spell c.args.prim.now.mode) had.same had.sound had.all c.front-octets.ensures.there c.front-octets.ensures.value whole)
