use Rattle.std.proofs.Common.{◌≡◌, ℕ, true, false, List, length, ◌+◌, refl, sym, subst, arith}
use Rattle.std.proofs.lemmas.Bool.{both_ways, false_from_ne_true, iff_false}
use Rattle.std.proofs.lemmas.Option.{slice_get_read}
use Rattle.objects_rta_valid.specs.Paths.{At}
use Rattle.objects_rta_valid.specs.Tables.{Adds}
use Rattle.objects_rta_valid.specs.declared.paths.table.Table.{Table}
use Rattle.objects_rta_valid.proofs.Picking.{TellsBefore, tells_added, tells_all, tells_skipped}
use Rattle.objects_rta_valid.proofs.paths.table.table_of.Goals.{then-issues+in_ok-add, then-issues-via-then-issues, then-issues-via-else-issues+then-not-issuers, else-issues+else-not-issuers}
use Rattle.objects_rta_valid.proofs.paths.table.table_of.Goals as goal

pub loop-place-preserved : goal.loop-place-preserved
loop-place-preserved c =
    let nodes = c.args.nodes.now in
    let issuers = c.args.issuers in
    let i = c.loop-place.place in
    let node = c.index-nodes-place.result in
    let at : At nodes i node = slice_get_read nodes (length nodes) i node refl c.loop-place-test.true c.index-nodes-place.is in
    elim c.if-issues.branch [
      | then-issues+in_ok-add w ↦
          let may : issuers ≡ true → node.issues ≡ true = λ only. elim w.then-issues.branch [
            | then-issues-via-then-issues v ↦ c.issues.ensures.0 v.if-issues.true
            | then-issues-via-else-issues+then-not-issuers v ↦ absurd (both_ways issuers v.if-not-issuers.true only)
          ] in
          let a : Adds c.loop-place.table w.add.new.self node.subject i = subst (λ (key : List ℕ). Adds c.loop-place.table w.add.new.self key i) w.subject.ensures w.in_ok-add.ensures in
          subst (λ (t : Table). TellsBefore nodes issuers (i + 1) t) (sym w.table-is) (tells_added nodes issuers i node at c.loop-place.table w.add.new.self may a c.loop-place.invariant)
      | else-issues+else-not-issuers w ↦
          let not_issuer : node.issues ≡ false = false_from_ne_true node.issues (iff_false c.issues.ensures w.if-issues.false) in
          subst (λ (t : Table). TellsBefore nodes issuers (i + 1) t) (sym w.table-is) (tells_skipped nodes issuers i node at c.loop-place.table w.if-not-issuers.false not_issuer c.loop-place.invariant)
    ]

pub returns : goal.returns
returns c =
    let l = c.loop-place.auto.place-end in
    let m = c.loop-place-test.false in
    tells_all c.args.nodes.now c.args.issuers c.loop-place.place c.loop-place.table (omega (arith, l, m)) c.loop-place.invariant
