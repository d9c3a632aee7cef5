use Rattle.std.proofs.Common.{◌≡◌, ◌<◌, ◌+◌, ◌-◌, ◌⊎◌, ℕ, true, false, List, [], ◌∷◌, ◌++◌, length, set, All, length-append, inl, inr, refl, sym, ap, subst, ◌∙◌, arith}
use Rattle.std.proofs.lemmas.List.Elements.{All-push}
use Rattle.objects_rta_valid.specs.Runs.{AreApart, AreFresh, AreUnderway, known_at, length_at, on_at}
use Rattle.objects_rta_valid.specs.OnPaths.{has}
use Rattle.objects_rta_valid.specs.declared.paths.lengths.Length.TheVariants.{Unknown, Underway, Of}
use Rattle.objects_rta_valid.specs.declared.paths.table.Found.TheVariants.{Nothing, One}
use Rattle.objects_rta_valid.proofs.Apart.{apart_push, has_cases, has_either}
use Rattle.objects_rta_valid.proofs.Fresh.{Leads, followed, fresh_circle, fresh_joins, fresh_stops, leads_forks, leads_next}
use Rattle.objects_rta_valid.proofs.Underway.{of_known, of_run, underway_at, underway_next, unknown_new, unknown_old}
use Rattle.objects_rta_valid.proofs.paths.lengths.follow.Goals.{In_ok-push}
use Rattle.objects_rta_valid.proofs.paths.lengths.follow.Goals as goal

pub overflow_sub-behind : goal.overflow_sub-behind
overflow_sub-behind c =
    let inv = c.loop-lengths.invariant in
    let e : length_at c.loop-lengths.lengths c.loop-lengths.place ≡ Underway c.in-Underway.before = c.in-Underway.is in
    let at = underway_at c.args.steps.now c.args.lengths.now c.loop-lengths.lengths c.loop-lengths.places.items c.requires.measured inv.underway c.loop-lengths.place c.in-Underway.before e in
    let l : c.in-Underway.before < length c.loop-lengths.places.items = at.0 in
    let n = c.len.ensures in
    let o = c.loop-lengths.places.ok.0 in
    omega (arith, n, o)

pub returns-in-Underway : goal.returns-in-Underway
returns-in-Underway c =
    let inv = c.loop-lengths.invariant in
    let places : List ℕ = c.loop-lengths.places.items in
    let e : length_at c.loop-lengths.lengths c.loop-lengths.place ≡ Underway c.in-Underway.before = c.in-Underway.is in
    let at = underway_at c.args.steps.now c.args.lengths.now c.loop-lengths.lengths places c.requires.measured inv.underway c.loop-lengths.place c.in-Underway.before e in
    let n = c.len.ensures in
    let o = c.loop-lengths.places.ok.0 in
    let behind : c.len.result - c.in-Underway.before ≡ length places - c.in-Underway.before = omega (arith, n, o) in
    let fresh = fresh_circle c.args.steps.now c.args.lengths.now c.requires.measured c.args.first places c.loop-lengths.place c.in-Underway.before (c.len.result - c.in-Underway.before) at.0 at.1 behind inv.leads inv.apart in
    followed c.args.steps.now c.args.lengths.now c.loop-lengths.lengths c.args.first (record { places = c.loop-lengths.places; before = c.in-Underway.before; behind = c.len.result - c.in-Underway.before }) c.requires.inside c.requires.first fresh inv.underway inv.all

pub returns-in-Of : goal.returns-in-Of
returns-in-Of c =
    let inv = c.loop-lengths.invariant in
    let places : List ℕ = c.loop-lengths.places.items in
    let place = c.loop-lengths.place in
    let e : length_at c.loop-lengths.lengths place ≡ Of c.in-Of.behind = c.in-Of.is in
    let n = c.len-before.ensures in
    let o = c.loop-lengths.places.ok.0 in
    let before : length places ≡ c.len-before.result = omega (arith, n, o) in
    let known = of_known c.args.steps.now c.args.lengths.now c.loop-lengths.lengths places c.requires.measured inv.underway place c.in-Of.behind e in
    let run = of_run c.args.steps.now c.args.lengths.now c.loop-lengths.lengths places c.requires.measured inv.underway place c.in-Of.behind e in
    let joins = fresh_joins c.args.steps.now c.args.lengths.now c.requires.measured c.args.first places place c.in-Of.behind inv.leads inv.apart inv.new known run in
    let fresh = subst (λ (k : ℕ). AreFresh c.args.steps.now c.args.lengths.now c.args.first places k c.in-Of.behind) before joins in
    followed c.args.steps.now c.args.lengths.now c.loop-lengths.lengths c.args.first (record { places = c.loop-lengths.places; before = c.len-before.result; behind = c.in-Of.behind }) c.requires.inside c.requires.first fresh inv.underway inv.all

-- The place that is new, with its number.
underway_here : (c : In_ok-push) → AreUnderway c.args.lengths.now (set c.loop-lengths.lengths c.loop-lengths.place (Underway c.len-in-loop-lengths.result)) c.push.new.self.items
underway_here c =
    let inv = c.loop-lengths.invariant in
    let places : List ℕ = c.loop-lengths.places.items in
    let place = c.loop-lengths.place in
    let e : length_at c.loop-lengths.lengths place ≡ Unknown = c.in-Unknown.is in
    let n = c.len-in-loop-lengths.ensures in
    let o = c.loop-lengths.places.ok.0 in
    let at : length places ≡ c.len-in-loop-lengths.result = omega (arith, n, o) in
    let new = unknown_new c.args.steps.now c.args.lengths.now c.loop-lengths.lengths places c.requires.measured inv.underway place e in
    let next = underway_next c.args.lengths.now c.loop-lengths.lengths places place inv.underway inv.inside new in
    let moved = subst (λ (k : ℕ). AreUnderway c.args.lengths.now (set c.loop-lengths.lengths place (Underway k)) (places ++ place ∷ [])) at next in
    subst (λ (ps : List ℕ). AreUnderway c.args.lengths.now (set c.loop-lengths.lengths place (Underway c.len-in-loop-lengths.result)) ps) (sym c.in_ok-push.ensures.items) moved

apart_here : (c : In_ok-push) → AreApart (c.loop-lengths.places.items ++ c.loop-lengths.place ∷ [])
apart_here c =
    let inv = c.loop-lengths.invariant in
    let e : length_at c.loop-lengths.lengths c.loop-lengths.place ≡ Unknown = c.in-Unknown.is in
    apart_push c.loop-lengths.places.items c.loop-lengths.place inv.apart (unknown_new c.args.steps.now c.args.lengths.now c.loop-lengths.lengths c.loop-lengths.places.items c.requires.measured inv.underway c.loop-lengths.place e)

new_here : (c : In_ok-push) → (p : ℕ) → has c.push.new.self.items p ≡ true → known_at c.args.lengths.now p ≡ false
new_here c p h = go (has_either c.loop-lengths.places.items (c.loop-lengths.place ∷ []) p (ap (λ (ps : List ℕ). has ps p) (sym c.in_ok-push.ensures.items) ∙ h))
  where
    place : ℕ
    place = c.loop-lengths.place

    unknown : known_at c.args.lengths.now place ≡ false
    unknown =
        let e : length_at c.loop-lengths.lengths place ≡ Unknown = c.in-Unknown.is in
        unknown_old c.args.steps.now c.args.lengths.now c.loop-lengths.lengths c.loop-lengths.places.items c.requires.measured c.loop-lengths.invariant.underway place e

    last : (p ≡ place) ⊎ (has [] p ≡ true) → known_at c.args.lengths.now p ≡ false
    last (inl e) = ap (λ (z : ℕ). known_at c.args.lengths.now z) e ∙ unknown
    last (inr e) = absurd cc

    go : (has c.loop-lengths.places.items p ≡ true) ⊎ (has (place ∷ []) p ≡ true) → known_at c.args.lengths.now p ≡ false
    go (inl e) = c.loop-lengths.invariant.new p e
    go (inr e) = last (has_cases place [] p e)

all_here : (c : In_ok-push) → All (λ place. place < length c.args.steps.now) c.push.new.self.items
all_here c =
    let inv = c.loop-lengths.invariant in
    subst (λ (ps : List ℕ). All (λ (place : ℕ). place < length c.args.steps.now) ps) (sym c.in_ok-push.ensures.items) (All-push (λ (place : ℕ). place < length c.args.steps.now) c.loop-lengths.places.items c.loop-lengths.place inv.all inv.below)

pub returns-in-Nothing : goal.returns-in-Nothing
returns-in-Nothing c =
    let inv = c.loop-lengths.invariant in
    let places : List ℕ = c.loop-lengths.places.items in
    let place = c.loop-lengths.place in
    let push = (goal.at.returns-in-Nothing c).In_ok-push in
    let o : on_at c.args.steps.now place ≡ Nothing = c.in-Nothing.is in
    let stops = fresh_stops c.args.steps.now c.args.lengths.now c.requires.measured c.args.first places place inv.leads (apart_here push) o in
    let items : c.push.new.self.items ≡ places ++ place ∷ [] = c.in_ok-push.ensures.items in
    let n = c.len-before-in-Nothing.ensures in
    let own = c.push.new.self.ok.0 in
    let long : length c.push.new.self.items ≡ length places + length (place ∷ []) = ap (λ (ps : List ℕ). length ps) items ∙ length-append places (place ∷ []) in
    let one : length (place ∷ []) ≡ 1 = refl in
    let before : length places ≡ c.len-before-in-Nothing.result - 1 = omega (arith, n, own) in
    let moved = subst (λ (ps : List ℕ). AreFresh c.args.steps.now c.args.lengths.now c.args.first ps (length places) 1) (sym items) stops in
    let fresh = subst (λ (k : ℕ). AreFresh c.args.steps.now c.args.lengths.now c.args.first c.push.new.self.items k 1) before moved in
    followed c.args.steps.now c.args.lengths.now (set c.loop-lengths.lengths place (Underway c.len-in-loop-lengths.result)) c.args.first (record { places = c.push.new.self; before = c.len-before-in-Nothing.result - 1; behind = 1 }) c.requires.inside c.requires.first fresh (underway_here push) (all_here push)

pub loop-lengths-preserved : goal.loop-lengths-preserved
loop-lengths-preserved c =
    let inv = c.loop-lengths.invariant in
    let places : List ℕ = c.loop-lengths.places.items in
    let place = c.loop-lengths.place in
    let push = (goal.at.loop-lengths-preserved c).In_ok-push in
    let items : c.push.new.self.items ≡ places ++ place ∷ [] = c.in_ok-push.ensures.items in
    let o : on_at c.args.steps.now place ≡ One c.in-One.next = c.in-One.is in
    let l : c.in-One.next < length c.args.steps.now = c.requires.inside place c.in-One.next o in
    let size : length c.args.lengths.now ≡ length c.args.steps.now = c.requires.measured.size in
    let under = underway_here push in
    let now : length (set c.loop-lengths.lengths place (Underway c.len-in-loop-lengths.result)) ≡ length c.args.lengths.now = under.size in
    record {
      inside = omega arith;
      below = l;
      leads = subst (λ (ps : List ℕ). Leads c.args.steps.now c.args.first ps c.in-One.next) (sym items) (leads_next c.args.steps.now c.args.first places place c.in-One.next inv.leads o);
      apart = subst AreApart (sym items) (apart_here push);
      new = new_here push;
      underway = under;
      all = all_here push;
    }

pub returns-in-Several : goal.returns-in-Several
returns-in-Several c =
    let inv = c.loop-lengths.invariant in
    let push = (goal.at.returns-in-Several c).In_ok-push in
    leads_forks c.args.steps.now c.args.first c.loop-lengths.places.items c.loop-lengths.place inv.leads c.in-Several.is (apart_here push)
