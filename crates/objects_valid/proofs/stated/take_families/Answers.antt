use Rattle.std.proofs.Common.{refl}
use Rattle.objects_cms.proofs.of_bcder_content.InMode.{begin, next_such, stop_such, unfit_such, done}
use Rattle.objects_valid.proofs.Parts.{families_one, said_no}
use Rattle.objects_valid.proofs.stated.take_families.Goals as goal

pub returns-in_err-families : goal.returns-in_err-families
returns-in_err-families g c = stop_such _ begin c.from_residual.ensures c.in_err-families.ensures.reads

pub returns-then-not-are_listed : goal.returns-then-not-are_listed
returns-then-not-are_listed g c = unfit_such begin families_one c.in_ok-families.ensures.reads (said_no c.are_listed.ensures c.if-not-are_listed.true)

pub returns : goal.returns
returns g c = done (next_such begin c.in_ok-families.ensures.reads (c.are_listed.ensures.0 c.if-not-are_listed.false)) refl
