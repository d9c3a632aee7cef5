use Rattle.std.proofs.Common.{sym, subst}
use Rattle.std.specs.Prelude.{◌↔◌, IsTrue}
use Rattle.objects_rta_valid.specs.certs_extension.Kinds.{Kind}
use Rattle.objects_rta_anchors.specs.Anchors.{AnchoredValue}
use Rattle.objects_rta_anchors.specs.Coverage.{IsCovered}
use Rattle.objects_rta_anchors.proofs.Finishing.{anchored_of, holds_told, open_of}
use Rattle.objects_rta_valid.proofs.Standing.{not_told, told_not}
use Rattle.objects_rta_anchors.proofs.validation.Validation.finalize.Goals as goal

pub returns-then-not-are_anchored-clause-holds : goal.returns-then-not-are_anchored-clause-holds
returns-then-not-are_anchored-clause-holds c =
    let f = c.self.inside in
    let v : AnchoredValue = record { rta = f.valid.rta; paths = f.valid.paths; anchors = f.anchors.items; issuers = f.issuers.items } in
    rw (← c.self.view_is) (not_told (λ h. told_not c.are_anchored.result c.are_anchored.ensures c.if-not-are_anchored.true (open_of v c.as_slice.result.now c.as_slice.ensures.value h.anchored)))

pub returns-in-Ok-clause-holds : goal.returns-in-Ok-clause-holds
returns-in-Ok-clause-holds c =
    let f = c.self.inside in
    let v : AnchoredValue = record { rta = f.valid.rta; paths = f.valid.paths; anchors = f.anchors.items; issuers = f.issuers.items } in
    rw (← c.self.view_is) (holds_told v c.in-Ok.are_same (anchored_of v c.as_slice.result.now c.as_slice.ensures.value (c.are_anchored.ensures.0 c.if-not-are_anchored.false)) (subst (λ (w : AnchoredValue). IsTrue c.in-Ok.are_same ↔ ((kind : Kind) → IsCovered w kind)) (sym c.self.view_is) c.in-Ok.ensures))

pub returns-in-Err-clause-memory : goal.returns-in-Err-clause-memory
returns-in-Err-clause-memory c =
    let f = c.self.inside in
    let v : AnchoredValue = record { rta = f.valid.rta; paths = f.valid.paths; anchors = f.anchors.items; issuers = f.issuers.items } in
    rw (← c.self.view_is) (anchored_of v c.as_slice.result.now c.as_slice.ensures.value (c.are_anchored.ensures.0 c.if-not-are_anchored.false))
