use Rattle.std.proofs.Common.{Err, refl}
use Rattle.objects_cms.proofs.of_bcder_content.InMode.{begin, next_opt_as, stop_opt, done}
use Rattle.objects_cms.proofs.of_bcder_content.Unique.{inside_tagged}
use Rattle.objects_valid.specs.Reading.{alone, families_alone}
use Rattle.objects_valid.proofs.stated.take_parts.Goals as goal

pub returns-in_err-asn : goal.returns-in_err-asn
returns-in_err-asn g c = stop_opt _ begin c.from_residual.ensures c.in_err-asn.ensures

pub returns-in-Ok : goal.returns-in-Ok
returns-in-Ok g c =
    let s = next_opt_as alone _ begin (λ m. inside_tagged _ _) c.in_ok-asn.ensures in
    done (next_opt_as families_alone _ s (λ m. inside_tagged _ _) c.in-Ok.ensures) refl

pub returns-in-Err : goal.returns-in-Err
returns-in-Err g c =
    let s = next_opt_as alone _ begin (λ m. inside_tagged _ _) c.in_ok-asn.ensures in
    stop_opt {r = Err c.in-Err.error} _ s (refl, refl) c.in-Err.ensures
