use Rattle.std.proofs.Common.{ℕ, ◌<◌, ◌≤◌, List, length, ap, subst, ◌∙◌, arith}
use Rattle.std.specs.Prelude.{◌↔◌, IsTrue}
use Rattle.std.specs.List.{slice_get}
use Rattle.objects_rta_anchors.specs.declared.anchor.Anchor.{Anchor}
use Rattle.std.proofs.Math.ListN.{length-set}
use Rattle.objects_rta_valid.specs.certs_basics.Verdicts.{Verdicts}
use Rattle.objects_rta_valid.specs.certs_extension.Cert.{CertValue}
use Rattle.objects_rta_anchors.specs.Anchors.{IsBelow}
use Rattle.objects_rta_anchors.specs.Ends.{IsOpenAt}
use Rattle.objects_rta_anchors.specs.declared.anchor.Anchor.TheVariants.{Issuer}
use Rattle.objects_rta_anchors.proofs.Marking.{marked_all, marked_no, marked_yes, open_inside, open_told}
use Rattle.objects_rta_valid.proofs.Standing.{told_not}
use Rattle.objects_rta_anchors.proofs.below.mark_issuer.Goals.{then-is_open_below, else-is_open_below}
use Rattle.objects_rta_anchors.proofs.below.mark_issuer.Goals as goal

pub loop-signer-preserved : goal.loop-signer-preserved
loop-signer-preserved g c =
    let A : CertValue → Type 0 = IsBelow (g.V.Verifier.says c.args.verifier.now) c.args.supplied.now.ca.now.holder.cert in
    let P : ℕ → Type 0 = IsOpenAt A c.args.ends.now.certs.now c.args.ends.now.places.now c.args.anchors.now.items in
    let now : IsTrue c.is_open_below.result ↔ IsOpenAt A c.args.ends.now.certs.now c.args.ends.now.places.now c.as_slice.result.now c.loop-signer.signer =
    subst (λ (v : Verdicts). IsTrue c.is_open_below.result ↔ IsOpenAt (IsBelow v c.args.supplied.now.ca.now.holder.cert) c.args.ends.now.certs.now c.args.ends.now.places.now c.as_slice.result.now c.loop-signer.signer) c.loop-signer.invariant.same c.is_open_below.ensures.below in
    let told : IsTrue c.is_open_below.result ↔ P c.loop-signer.signer =
    open_told A c.args.ends.now.certs.now c.args.ends.now.places.now c.args.anchors.now.items c.as_slice.result.now c.loop-signer.signer c.is_open_below.result
    (ap (λ (xs : List Anchor). slice_get xs c.loop-signer.signer) c.as_slice.ensures.value ∙ c.loop-signer.invariant.marked.ahead c.loop-signer.signer (omega arith)) now in
    let long = length-set c.args.anchors.now.items c.args.first (Issuer c.args.supplied.now.number) in
    record {
      marked = elim c.if-is_open_below.branch [
        | then-is_open_below w ↦ rw w.anchors-is (marked_yes P (Issuer c.args.supplied.now.number) c.loop-signer.signer c.args.anchors.now.items c.loop-signer.anchors.items (omega (arith, long, c.len-signer-end.ensures, c.loop-signer-test.true)) (told.0 w.if-is_open_below.true) c.loop-signer.invariant.marked)
        | else-is_open_below w ↦ rw w.anchors-is (marked_no P (Issuer c.args.supplied.now.number) c.loop-signer.signer c.args.anchors.now.items c.loop-signer.anchors.items (told_not c.is_open_below.result told w.if-is_open_below.false) c.loop-signer.invariant.marked)
      ];
      same = c.is_open_below.ensures.same ∙ c.loop-signer.invariant.same;
      asked = omega (arith, c.is_open_below.ensures.asked, c.loop-signer.invariant.asked);
    }

pub returns-clause-marked : goal.returns-clause-marked
returns-clause-marked g c =
    let A : CertValue → Type 0 = IsBelow (g.V.Verifier.says c.args.verifier.now) c.args.supplied.now.ca.now.holder.cert in
    let long = length-set c.args.anchors.now.items c.args.first (Issuer c.args.supplied.now.number) in
    marked_all (IsOpenAt A c.args.ends.now.certs.now c.args.ends.now.places.now c.args.anchors.now.items) (Issuer c.args.supplied.now.number) c.loop-signer.signer c.args.anchors.now.items c.loop-signer.anchors.items
    (open_inside A c.args.ends.now.certs.now c.args.ends.now.places.now c.args.anchors.now.items) (omega (arith, long, c.len-signer-end.ensures, c.loop-signer-test.false)) c.loop-signer.invariant.marked

pub returns-clause-asked : goal.returns-clause-asked
returns-clause-asked g c =
    let A : CertValue → Type 0 = IsBelow (g.V.Verifier.says c.args.verifier.now) c.args.supplied.now.ca.now.holder.cert in
    let inside : c.args.first < length c.args.anchors.now.items = open_inside A c.args.ends.now.certs.now c.args.ends.now.places.now c.args.anchors.now.items c.args.first c.requires.here in
    let long = length-set c.args.anchors.now.items c.args.first (Issuer c.args.supplied.now.number) in
    let end : c.loop-signer.signer ≤ c.len-signer-end.result = c.loop-signer.auto.signer-end (omega (arith, inside, long, c.len-signer-end.ensures)) in
    omega (arith, end, long, c.len-signer-end.ensures, c.loop-signer.invariant.asked)
