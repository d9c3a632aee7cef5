use Rattle.std.proofs.Common.{refl}
use Rattle.objects_payload.specs.Families.{family_value}
use Rattle.objects_payload.proofs.of_bcder_content.InMode.{begin, next, stop, next_opt_as, stop_opt, done}
use Rattle.objects_payload.proofs.of_bcder_content.Unique.{inside_tagged}
use Rattle.objects_payload.proofs.roa.families.take_pair.Goals as goal

pub returns-in_err-first : goal.returns-in_err-first
returns-in_err-first g c = stop _ begin c.from_residual.ensures c.in_err-first.ensures

pub returns-in_err-second : goal.returns-in_err-second
returns-in_err-second g c = stop_opt _ (next begin c.in_ok-first.ensures) c.from_residual-in_err-second.ensures c.in_err-second.ensures

pub returns : goal.returns
returns g c = done (next_opt_as family_value _ (next begin c.in_ok-first.ensures) (λ m. inside_tagged _ _) c.in_ok-second.ensures) refl
