use Rattle.std.proofs.Common.{Err, refl}
use Rattle.objects_cms.proofs.of_bcder_content.InMode.{begin, finish, next, next_opt_as, stop, stop_all, stop_opt}
use Rattle.objects_cms.proofs.of_bcder_content.Unique.{inside_tagged}
use Rattle.objects_cms.specs.objects_payload.Fields.{alone}
use Rattle.objects_rta.proofs.attestation.content.take_parts.Goals as goal

pub returns-in_err-version : goal.returns-in_err-version
returns-in_err-version g c = stop_opt _ begin c.from_residual.ensures c.in_err-version.ensures.reads

pub returns-in_err-keys : goal.returns-in_err-keys
returns-in_err-keys g c =
    let s = next_opt_as alone _ begin (λ m. inside_tagged _ _) c.in_ok-version.ensures.reads in
    stop _ s c.from_residual-in_err-keys.ensures c.in_err-keys.ensures

pub returns-in-Ok : goal.returns-in-Ok
returns-in-Ok g c =
    let s = next_opt_as alone _ begin (λ m. inside_tagged _ _) c.in_ok-version.ensures.reads in
    finish (next s c.in_ok-keys.ensures) c.in-Ok.ensures.reads refl

pub returns-in-Err : goal.returns-in-Err
returns-in-Err g c =
    let s = next_opt_as alone _ begin (λ m. inside_tagged _ _) c.in_ok-version.ensures.reads in
    stop_all {r = Err c.in-Err.error} _ (next s c.in_ok-keys.ensures) (refl, refl) c.in-Err.ensures.reads
