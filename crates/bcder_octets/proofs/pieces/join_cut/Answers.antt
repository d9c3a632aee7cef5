use Rattle.std.proofs.Common.{◌<◌, ◌≤◌, ℕ, List, length, refl, rules}
use Rattle.bcder_octets.proofs.Cuts.{cutting_next, cutting_refused, cutting_short, cutting_done, not_so}
use Rattle.bcder_octets.proofs.pieces.join_cut.Goals as goal

pub returns-then-not-may_stand : goal.returns-then-not-may_stand
returns-then-not-may_stand c = λ ts pieces s plain. cutting_refused (λ (v : List ℕ). v) c.loop-piece.invariant c.in-Some.ensures.found (not_so c.may_stand.ensures c.if-not-may_stand.true) ts s

pub loop-piece-preserved : goal.loop-piece-preserved
loop-piece-preserved c = cutting_next c.loop-piece.invariant c.in-Some.ensures.found (c.may_stand.ensures.0 c.if-not-may_stand.false) c.in_ok-extend_from_slice.ensures.items refl

pub returns-then-len-le-SEGMENT : goal.returns-then-len-le-SEGMENT
returns-then-len-le-SEGMENT c = λ ts pieces s plain.
    let few : length c.loop-piece.cut.items ≤ 1000 = search rules in
    cutting_short (λ (v : List ℕ). v) c.loop-piece.invariant c.in_default.ensures.none few ts s

pub returns : goal.returns
returns c = λ ts pieces s plain.
    let long : 1000 < length c.loop-piece.cut.items = search rules in
    (cutting_done c.loop-piece.invariant c.in_default.ensures.none long ts pieces s plain, long)
