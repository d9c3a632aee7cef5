use Rattle.std.proofs.Common.{◌≡◌, ◌<◌, ◌≤◌, ℕ, true, false, List, length, sym, ap, subst, ◌∙◌, arith}
use Rattle.objects_rta_valid.specs.Kept.{paths_of}
use Rattle.objects_rta_valid.specs.Paths.{IsOn, PathsValue}
use Rattle.objects_rta_valid.specs.Runs.{known_at}
use Rattle.objects_rta_valid.specs.declared.paths.lengths.Length.{Length}
use Rattle.objects_rta_valid.proofs.KeptPaths.{off_from, on_from}
use Rattle.objects_rta_valid.proofs.paths.places.Paths.first_off.Goals as goal

-- The places before that one are on paths.
on_before : (lengths own : List Length) (kept : List (List ℕ)) (paths : List (List ℕ)) → ((x : ℕ) → known_at own x ≡ true → IsOn kept x) → lengths ≡ own → kept ≡ paths → (n : ℕ) → ((k : ℕ) → k < n → known_at lengths k ≡ true) → (place : ℕ) → place < n → IsOn paths place
on_before lengths own kept paths on e f n before place l =
    subst (λ (ps : List (List ℕ)). IsOn ps place) f (on place (ap (λ (ls : List Length). known_at ls place) (sym e) ∙ before place l))

pub returns-then-not-is_known : goal.returns-then-not-is_known
returns-then-not-is_known c =
    let own : List Length = c.self.inside.lengths.items in
    let kept : List (List ℕ) = paths_of c.self.inside.steps.items c.self.inside.starts.items in
    let i = c.loop-place.place in
    let count = ap (λ (v : PathsValue). v.count) c.self.view_is in
    let paths : kept ≡ c.args.self.now.paths = ap (λ (v : PathsValue). v.paths) c.self.view_is in
    let same : c.deref-length-items.result.now ≡ own = c.deref-length-items.ensures.value in
    let size = ap (λ (ls : List Length). length ls) same in
    let all = c.self.invariant.size in
    let l : i < length c.deref-length-items.result.now = c.loop-place-test.true in
    let none : known_at own i ≡ false = ap (λ (ls : List Length). known_at ls i) (sym same) ∙ (sym c.is_known.ensures ∙ c.if-not-is_known.true) in
    record {
      inside = omega (arith, size, count, all);
      off = λ h. off_from c.self.inside.steps.items own kept c.self.invariant i none (subst (λ (ps : List (List ℕ)). IsOn ps i) (sym paths) h);
      before = on_before c.deref-length-items.result.now own kept c.args.self.now.paths (on_from c.self.inside.steps.items own kept c.self.invariant) same paths i c.loop-place.invariant;
    }

pub returns : goal.returns
returns c =
    let own : List Length = c.self.inside.lengths.items in
    let kept : List (List ℕ) = paths_of c.self.inside.steps.items c.self.inside.starts.items in
    let count = ap (λ (v : PathsValue). v.count) c.self.view_is in
    let paths : kept ≡ c.args.self.now.paths = ap (λ (v : PathsValue). v.paths) c.self.view_is in
    let same : c.deref-length-items.result.now ≡ own = c.deref-length-items.ensures.value in
    let size = ap (λ (ls : List Length). length ls) same in
    let all = c.self.invariant.size in
    let end : length c.deref-length-items.result.now ≤ c.loop-place.place = c.loop-place-test.false in
    let before = on_before c.deref-length-items.result.now own kept c.args.self.now.paths (on_from c.self.inside.steps.items own kept c.self.invariant) same paths c.loop-place.place c.loop-place.invariant in
    λ place l. before place (omega (arith, size, count, all))
