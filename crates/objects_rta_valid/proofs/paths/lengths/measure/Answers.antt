use Rattle.std.proofs.Common.{◌≡◌, ◌<◌, ◌+◌, ◌-◌, ℕ, List, [], ◌∷◌, ◌++◌, length, get_or, set, take, sym, ap, subst, ◌∙◌, arith}
use Rattle.std.proofs.lemmas.List.{length-take-le, take_more}
use Rattle.objects_rta_valid.specs.Runs.{AreSet}
use Rattle.objects_rta_valid.specs.declared.paths.lengths.Length.TheVariants.{Of}
use Rattle.objects_rta_valid.proofs.Underway.{set_more}
use Rattle.objects_rta_valid.proofs.paths.lengths.measure.Goals as goal

pub loop-k-preserved : goal.loop-k-preserved
loop-k-preserved c =
    let k = c.loop-k.k in
    let places : List ℕ = c.args.fresh.now.places.items in
    let same : c.deref-place-items.result.now ≡ places = c.deref-place-items.ensures.value in
    let place : ℕ = get_or places k 0 in
    let test : k < length c.deref-place-items.result.now = c.loop-k-test.true in
    let sizes = ap (λ (ps : List ℕ). length ps) same in
    let inside : k < length places = omega (arith, sizes) in
    let size = c.loop-k.invariant.size in
    let all : place < length c.args.lengths.now = c.requires.inside k 0 inside in
    let long = length-take-le k places (omega arith) in
    let n : c.args.fresh.now.behind + c.saturating_sub.result ≡ c.args.fresh.now.behind + (c.args.fresh.now.before - length (take k places)) =
    ap (λ (x : ℕ). c.args.fresh.now.behind + x) (c.saturating_sub.ensures ∙ ap (λ (x : ℕ). c.args.fresh.now.before - x) (sym long)) in
    let next = set_more c.args.lengths.now c.loop-k.lengths (take k places) c.args.fresh.now.before c.args.fresh.now.behind place (c.args.fresh.now.behind + c.saturating_sub.result) n c.loop-k.invariant (omega arith) in
    let at : get_or c.deref-place-items.result.now k 0 ≡ place = ap (λ (ps : List ℕ). get_or ps k 0) same in
    let moved = subst (λ (x : ℕ). AreSet c.args.lengths.now (set c.loop-k.lengths x (Of (c.args.fresh.now.behind + c.saturating_sub.result))) (take k places ++ place ∷ []) c.args.fresh.now.before c.args.fresh.now.behind) (sym at) next in
    subst (λ (ps : List ℕ). AreSet c.args.lengths.now (set c.loop-k.lengths (get_or c.deref-place-items.result.now k 0) (Of (c.args.fresh.now.behind + c.saturating_sub.result))) ps c.args.fresh.now.before c.args.fresh.now.behind) (sym (take_more places k 0 inside)) moved
