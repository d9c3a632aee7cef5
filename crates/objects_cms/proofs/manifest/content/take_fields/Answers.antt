use Rattle.std.proofs.Common.{refl}
use Rattle.objects_cms.proofs.of_bcder_content.InMode.{begin, next, next_opt_as, stop, stop_opt, done}
use Rattle.objects_cms.proofs.of_bcder_content.Unique.{inside_tagged}
use Rattle.objects_cms.specs.Said.{alone}
use Rattle.objects_cms.proofs.manifest.content.take_fields.Goals as goal

pub returns-in_err-version : goal.returns-in_err-version
returns-in_err-version g c = stop_opt _ begin c.from_residual.ensures c.in_err-version.ensures.reads

pub returns-in_err-manifest_number : goal.returns-in_err-manifest_number
returns-in_err-manifest_number g c =
    let s = next_opt_as alone _ begin (λ m. inside_tagged _ _) c.in_ok-version.ensures.reads in
    stop _ s c.from_residual-in_err-manifest_number.ensures c.in_err-manifest_number.ensures.reads

pub returns-in_err-this_update : goal.returns-in_err-this_update
returns-in_err-this_update g c =
    let s = next (next_opt_as alone _ begin (λ m. inside_tagged _ _) c.in_ok-version.ensures.reads) c.in_ok-manifest_number.ensures.reads in
    stop _ s c.from_residual-in_err-this_update.ensures c.in_err-this_update.ensures.reads

pub returns-in_err-next_update : goal.returns-in_err-next_update
returns-in_err-next_update g c =
    let s = next (next_opt_as alone _ begin (λ m. inside_tagged _ _) c.in_ok-version.ensures.reads) c.in_ok-manifest_number.ensures.reads in
    stop _ (next s c.in_ok-this_update.ensures.reads) c.from_residual-in_err-next_update.ensures c.in_err-next_update.ensures.reads

pub returns-in_err-algorithm : goal.returns-in_err-algorithm
returns-in_err-algorithm g c =
    let s = next (next_opt_as alone _ begin (λ m. inside_tagged _ _) c.in_ok-version.ensures.reads) c.in_ok-manifest_number.ensures.reads in
    stop _ (next (next s c.in_ok-this_update.ensures.reads) c.in_ok-next_update.ensures.reads) c.from_residual-in_err-algorithm.ensures c.in_err-algorithm.ensures.reads

pub returns-in_err-files : goal.returns-in_err-files
returns-in_err-files g c =
    let s = next (next_opt_as alone _ begin (λ m. inside_tagged _ _) c.in_ok-version.ensures.reads) c.in_ok-manifest_number.ensures.reads in
    stop _ (next (next (next s c.in_ok-this_update.ensures.reads) c.in_ok-next_update.ensures.reads) c.in_ok-algorithm.ensures.reads) c.from_residual-in_err-files.ensures c.in_err-files.ensures.reads

pub returns : goal.returns
returns g c =
    let s = next (next_opt_as alone _ begin (λ m. inside_tagged _ _) c.in_ok-version.ensures.reads) c.in_ok-manifest_number.ensures.reads in
    done (next (next (next (next s c.in_ok-this_update.ensures.reads) c.in_ok-next_update.ensures.reads) c.in_ok-algorithm.ensures.reads) c.in_ok-files.ensures.reads) refl
