use Rattle.std.proofs.Common.{Err, refl}
use Rattle.objects_payload.proofs.of_bcder_content.InMode.{begin, next, next_opt_as, stop, stop_opt, stop_all, finish}
use Rattle.objects_payload.proofs.of_bcder_content.Unique.{inside_tagged}
use Rattle.objects_payload.specs.Fields.{alone}
use Rattle.objects.proofs.rsc.checklist.content.take_parts.Goals as goal

pub returns-in_err-version : goal.returns-in_err-version
returns-in_err-version g c = stop_opt _ begin c.from_residual.ensures c.in_err-version.ensures.reads

pub returns-in_err-resources : goal.returns-in_err-resources
returns-in_err-resources g c =
    let s = next_opt_as alone _ begin (λ m. inside_tagged _ _) c.in_ok-version.ensures.reads in
    stop _ s c.from_residual-in_err-resources.ensures c.in_err-resources.ensures.reads

pub returns-in-Ok : goal.returns-in-Ok
returns-in-Ok g c =
    let s = next_opt_as alone _ begin (λ m. inside_tagged _ _) c.in_ok-version.ensures.reads in
    finish (next s c.in_ok-resources.ensures.reads) c.in-Ok.ensures.reads refl

pub returns-in-Err : goal.returns-in-Err
returns-in-Err g c =
    let s = next_opt_as alone _ begin (λ m. inside_tagged _ _) c.in_ok-version.ensures.reads in
    stop_all {r = Err c.in-Err.error} _ (next s c.in_ok-resources.ensures.reads) (refl, refl) c.in-Err.ensures.reads
