use Rattle.std.proofs.Common.{refl}
use Rattle.objects_payload.specs.Fields.{alone}
use Rattle.objects_payload.specs.Families.{AreFamilies}
use Rattle.objects_payload.proofs.of_bcder_content.InMode.{begin, next, stop, next_opt_as, stop_opt, inside, done}
use Rattle.objects_payload.proofs.of_bcder_content.Unique.{inside_tagged}
use Rattle.objects_payload.proofs.roa.attestation.take_parts.Goals as goal

pub returns-in_err-version : goal.returns-in_err-version
returns-in_err-version g c = stop_opt _ begin c.from_residual.ensures c.in_err-version.ensures

pub returns-in_err-as_id : goal.returns-in_err-as_id
returns-in_err-as_id g c =
    let s = next_opt_as alone _ begin (λ m. inside_tagged _ _) c.in_ok-version.ensures in
    stop _ s c.from_residual-in_err-as_id.ensures c.in_err-as_id.ensures.reads

pub returns-in_err-families : goal.returns-in_err-families
returns-in_err-families g c =
    let s = next_opt_as alone _ begin (λ m. inside_tagged _ _) c.in_ok-version.ensures in
    stop _ (next s c.in_ok-as_id.ensures.reads) c.from_residual-in_err-families.ensures (inside {P = AreFamilies} (record { each = λ p q r h. h }) c.in_err-families.ensures.ran)

pub returns : goal.returns
returns g c =
    let s = next_opt_as alone _ begin (λ m. inside_tagged _ _) c.in_ok-version.ensures in
    done (next (next s c.in_ok-as_id.ensures.reads) (inside {P = AreFamilies} (record { each = λ p q r h. h }) c.in_ok-families.ensures.ran)) refl
