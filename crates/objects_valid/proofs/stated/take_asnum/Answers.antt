use Rattle.std.proofs.Common.{refl}
use Rattle.objects_cms.proofs.of_bcder_content.InMode.{begin, next, stop, inside, done}
use Rattle.objects_valid.specs.Reading.{IsBlocksContent}
use Rattle.objects_valid.proofs.stated.take_asnum.Goals as goal

pub returns-in_err-set : goal.returns-in_err-set
returns-in_err-set g c = stop _ begin c.from_residual.ensures (inside {P = IsBlocksContent} (record { each = λ p q r h. h }) c.in_err-set.ensures.ran)

pub returns : goal.returns
returns g c = done (next begin (inside {P = IsBlocksContent} (record { each = λ p q r h. h }) c.in_ok-set.ensures.ran)) refl
