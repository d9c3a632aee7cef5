use Rattle.std.proofs.Common.{refl}
use Rattle.rpki_bundle.proofs.of_bcder_content.InMode.{begin, next, stop, done}
use Rattle.rpki_bundle.proofs.whole.take_entries.Goals as goal

pub returns-in_err-locators : goal.returns-in_err-locators
returns-in_err-locators g c = stop _ begin c.from_residual.ensures c.in_err-locators.ensures.reads

pub returns-in_err-objects : goal.returns-in_err-objects
returns-in_err-objects g c = stop _ (next begin c.in_ok-locators.ensures.reads) c.from_residual-in_err-objects.ensures c.in_err-objects.ensures.reads

pub returns-in_err-verdicts : goal.returns-in_err-verdicts
returns-in_err-verdicts g c = stop _ (next (next begin c.in_ok-locators.ensures.reads) c.in_ok-objects.ensures.reads) c.from_residual-in_err-verdicts.ensures c.in_err-verdicts.ensures.reads

pub returns : goal.returns
returns g c = done (next (next (next begin c.in_ok-locators.ensures.reads) c.in_ok-objects.ensures.reads) c.in_ok-verdicts.ensures.reads) refl
