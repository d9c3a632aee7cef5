use Rattle.objects_cms.proofs.Whole.{decodes_object}
use Rattle.std.proofs.Common.{IfErr, subst}
use Rattle.objects_cms.specs.bcder_tree.declared.mode.Mode.{Mode}
use Rattle.objects_cms.specs.bcder_content.Memory.{OnMemory}
use Rattle.objects_cms.specs.bcder_content.ClosureReads.{fresh}
use Rattle.objects_cms.specs.Begun.{BeginsObject}
use Rattle.objects_cms.proofs.Beginning.{begun}
use Rattle.objects_cms.proofs.signed.object.SignedObject.decode.Goals as goal

pub returns-clause-decodes : goal.returns-clause-decodes
returns-clause-decodes g c = decodes_object c.args.strict c.mode_of-rules.ensures (record { each = λ p q r h. h.0 }) c.decode.ensures.decoded

pub returns-clause-memory : goal.returns-clause-memory
returns-clause-memory g c =
    subst (λ (m : Mode). IfErr c.decode.result (λ e. OnMemory e (BeginsObject (fresh m (g.I.IntoSource.octets c.args.source))))) c.mode_of-rules.ensures
    (begun {P = BeginsObject} _ c.decode.result (record { each = λ p q r h. h.1 }) c.decode.ensures.memory)
