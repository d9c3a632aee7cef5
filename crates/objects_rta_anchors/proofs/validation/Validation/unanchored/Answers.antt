use Rattle.std.proofs.Common.{◌≡◌, ℕ, List, length, replicate, ap, ◌∙◌, subst, arith}
use Rattle.objects_rta_valid.specs.certs_verify.Holders.{ResourceCertValue}
use Rattle.objects_rta_anchors.specs.declared.anchor.Anchor.{Anchor}
use Rattle.objects_rta_anchors.specs.declared.anchor.Anchor.TheVariants.{Open}
use Rattle.objects_rta_anchors.specs.Anchors.{AnchoredValue}
use Rattle.objects_rta_anchors.specs.Ends.{AreEnds}
use Rattle.objects_rta_anchors.proofs.Starting.{kept_new, open_new}
use Rattle.objects_rta_anchors.proofs.validation.Validation.unanchored.Goals as goal

pub invariant_of-result : goal.invariant_of-result
invariant_of-result c =
    let ends : AreEnds c.args.valid.paths c.in_ok-ends.ends.items = subst (λ (ps : List (List ℕ)). AreEnds ps c.in_ok-ends.ends.items) c.paths.ensures c.in_ok-ends.ensures in
    kept_new c.args.valid.rta.signed.certs c.args.valid.paths c.in_ok-ends.ends.items c.in_ok-anchors.anchors.items c.len.result ends (omega (arith, c.len.ensures, c.in_ok-ends.ends.ok.0)) c.in_ok-anchors.ensures c.requires

pub returns : goal.returns
returns c =
    let ends : AreEnds c.args.valid.paths c.in_ok-ends.ends.items = subst (λ (ps : List (List ℕ)). AreEnds ps c.in_ok-ends.ends.items) c.paths.ensures c.in_ok-ends.ensures in
    let same : c.in_ok-anchors.anchors.items ≡ replicate (length c.args.valid.paths) Open =
    open_new c.args.valid.paths c.in_ok-ends.ends.items c.in_ok-anchors.anchors.items c.len.result ends (omega (arith, c.len.ensures, c.in_ok-ends.ends.ok.0)) c.in_ok-anchors.ensures in
    ap (λ (xs : List Anchor). let w : AnchoredValue = record { rta = c.args.valid.rta; paths = c.args.valid.paths; anchors = xs; issuers = c.new.result.items } in w) same
    ∙ ap (λ (rs : List ResourceCertValue). let w : AnchoredValue = record { rta = c.args.valid.rta; paths = c.args.valid.paths; anchors = replicate (length c.args.valid.paths) Open; issuers = rs } in w) c.new.ensures.items
