use Rattle.std.proofs.Common.{◌≡◌, ◌++◌, ℕ, List, map, append-nil, refl, sym, ap, ◌∙◌}
use Rattle.rpki_rules.proofs.Sets.{set_of}
use Rattle.rpki_walk.specs.Cost.{count_cmp, count_of}
use Rattle.rpki_walk.proofs.Costs.{entries_listed, entry_of, one_count}
use Rattle.rpki_walk.proofs.cost.tally.Tally.counts.Goals as goal

pub returns-clause-listed : goal.returns-clause-listed
returns-clause-listed c =
    let s = c.in_ok-sort_once.ensures in
    let all = set_of count_of count_cmp one_count _ _ _ s.sorted s.from_old s.kept (λ x y. refl) in
    let old = map count_of c.loop-authority.counts.items in
    let e : old ≡ map entry_of c.args.self.now.counts.entries = sym (append-nil old) ∙ (ap (λ (es : List (List ℕ × ℕ)). old ++ map entry_of es) (sym c.in-None.ensures.steps.0) ∙ c.loop-authority.invariant) in
    entries_listed c.args.self.now old (map count_of c.sort_once.new.values.items) e all.exact c.iter-authority-items.ensures.found

pub returns-clause-ascend : goal.returns-clause-ascend
returns-clause-ascend c =
    let s = c.in_ok-sort_once.ensures in
    let all = set_of count_of count_cmp one_count _ _ _ s.sorted s.from_old s.kept (λ x y. refl) in all.ascend
