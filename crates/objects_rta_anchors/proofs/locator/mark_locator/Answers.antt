use Rattle.std.proofs.Common.{ℕ, List, length, ap, ◌∙◌, arith}
use Rattle.std.specs.Prelude.{◌↔◌, IsTrue}
use Rattle.std.specs.List.{slice_get}
use Rattle.objects_rta_anchors.specs.declared.anchor.Anchor.{Anchor}
use Rattle.objects_rta_valid.specs.certs_extension.Cert.{CertValue}
use Rattle.objects_rta_anchors.specs.Anchors.{IsAtLocator}
use Rattle.objects_rta_anchors.specs.Ends.{IsOpenAt}
use Rattle.objects_rta_anchors.specs.declared.anchor.Anchor.TheVariants.{Locator}
use Rattle.objects_rta_anchors.proofs.Marking.{found_all, found_no, found_yes, marked_all, marked_no, marked_yes, open_inside, open_told}
use Rattle.objects_rta_valid.proofs.Standing.{told_not}
use Rattle.objects_rta_anchors.proofs.locator.mark_locator.Goals.{then-is_open_end, else-is_open_end}
use Rattle.objects_rta_anchors.proofs.locator.mark_locator.Goals as goal

pub loop-signer-preserved : goal.loop-signer-preserved
loop-signer-preserved c =
    let A : CertValue → Type 0 = IsAtLocator c.args.tal.now.key in
    let P : ℕ → Type 0 = IsOpenAt A c.args.ends.now.certs.now c.args.ends.now.places.now c.args.anchors.now.items in
    let told : IsTrue c.is_open_end.result ↔ P c.loop-signer.signer =
    open_told A c.args.ends.now.certs.now c.args.ends.now.places.now c.args.anchors.now.items c.as_slice.result.now c.loop-signer.signer c.is_open_end.result
    (ap (λ (xs : List Anchor). slice_get xs c.loop-signer.signer) c.as_slice.ensures.value ∙ c.loop-signer.invariant.marked.ahead c.loop-signer.signer (omega arith)) c.is_open_end.ensures in
    elim c.if-is_open_end.branch [
      | then-is_open_end w ↦
          let p : P c.loop-signer.signer = told.0 w.if-is_open_end.true in
          record {
            found = rw w.found-is (found_yes P c.loop-signer.signer p);
            marked = rw w.anchors-is (marked_yes P Locator c.loop-signer.signer c.args.anchors.now.items c.loop-signer.anchors.items (omega (arith, c.len-signer-end.ensures, c.loop-signer-test.true)) p c.loop-signer.invariant.marked);
          }
      | else-is_open_end w ↦
          let n : P c.loop-signer.signer → ⊥ = told_not c.is_open_end.result told w.if-is_open_end.false in
          record {
            found = rw w.found-is (found_no P c.loop-signer.signer c.loop-signer.found n c.loop-signer.invariant.found);
            marked = rw w.anchors-is (marked_no P Locator c.loop-signer.signer c.args.anchors.now.items c.loop-signer.anchors.items n c.loop-signer.invariant.marked);
          }
    ]

pub returns-clause-found : goal.returns-clause-found
returns-clause-found c =
    let A : CertValue → Type 0 = IsAtLocator c.args.tal.now.key in
    found_all (IsOpenAt A c.args.ends.now.certs.now c.args.ends.now.places.now c.args.anchors.now.items) c.loop-signer.signer (length c.args.anchors.now.items) c.loop-signer.found (open_inside A c.args.ends.now.certs.now c.args.ends.now.places.now c.args.anchors.now.items) (omega (arith, c.len-signer-end.ensures, c.loop-signer-test.false)) c.loop-signer.invariant.found

pub returns-clause-marked : goal.returns-clause-marked
returns-clause-marked c =
    let A : CertValue → Type 0 = IsAtLocator c.args.tal.now.key in
    marked_all (IsOpenAt A c.args.ends.now.certs.now c.args.ends.now.places.now c.args.anchors.now.items) Locator c.loop-signer.signer c.args.anchors.now.items c.loop-signer.anchors.items (open_inside A c.args.ends.now.certs.now c.args.ends.now.places.now c.args.anchors.now.items) (omega (arith, c.len-signer-end.ensures, c.loop-signer-test.false)) c.loop-signer.invariant.marked
