-- Lack of memory for what was read says nothing of the octets.
use Rattle.std.proofs.Common.{◌≡◌, Result, Ok, Err, subst, sym}
use Rattle.std.specs.Result.{IsErr, IsErrAnd}
use Rattle.objects_cms.specs.bcder_tree.declared.mode.Mode.{Mode}
use Rattle.objects_cms.specs.bcder_tree.Tree.{Trees}
use Rattle.objects_cms.specs.bcder_source.Errors.{OnContent}
use Rattle.objects_cms.specs.bcder_source.declared.error.DecodeError.{DecodeError}
use Rattle.objects_cms.specs.bcder_source.declared.error.DecodeError.TheVariants.{Memory}
use Rattle.objects_cms.specs.bcder_content.Contents.{ValuesLeft}
use Rattle.objects_cms.specs.bcder_content.Exact.{LacksAll}
use Rattle.objects_cms.specs.bcder_content.InMode.{ReadsFields}

pub no_room : {A D E : Type 0} {P : Mode → Trees → A → Type 0} {f : D → A} {start new : ValuesLeft} (r : Result D (DecodeError E))
    → IsErr r × IsErrAnd r (λ e. e ≡ Memory) → ReadsFields f P start r new
no_room (Ok x) a = absurd a.1
no_room {E = E} {P} {start = start} (Err e) a = record { reads = subst (λ (z : DecodeError E). OnContent z (LacksAll (P start.mode) start)) (sym a.1) tt }
