use Rattle.std.proofs.Common.{ℕ, ◌+◌, List, None, get_or, sym, subst, arith}
use Rattle.std.proofs.lemmas.Option.{slice_get-get_or}
use Rattle.objects_rta_valid.specs.Places.{ArePairsTo}
use Rattle.objects_rta_valid.proofs.Tables.{pairs_all, pairs_more, pairs_none}
use Rattle.objects_rta_valid.proofs.places.linked_pairs.Goals as goal

pub loop-place-init : goal.loop-place-init
loop-place-init c = subst (λ (ps : List (ℕ × ℕ)). ArePairsTo c.args.links.now 0 ps) (sym c.new-pairs.ensures.items) (pairs_none c.args.links.now)

pub loop-place-preserved : goal.loop-place-preserved
loop-place-preserved c =
    let i = c.loop-place.place in
    let link = get_or c.args.links.now i None in
    subst (λ (ps : List (ℕ × ℕ)). ArePairsTo c.args.links.now (i + 1) ps) (sym c.in_ok-push_link.ensures)
    (pairs_more c.args.links.now i link c.loop-place.pairs.items (slice_get-get_or c.args.links.now i None c.loop-place-test.true) c.loop-place.invariant)

pub returns : goal.returns
returns c = pairs_all c.args.links.now c.loop-place.place c.loop-place.pairs.items (let l = c.loop-place-test.false in let m = c.loop-place.auto.place-end in omega (arith, l, m)) c.loop-place.invariant
