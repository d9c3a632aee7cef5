use Rattle.std.proofs.Common.{◌≡◌, ℕ, List, take_all, sym, subst, ◌∙◌}
use Rattle.rpki_rules.specs.Words.{Mem}
use Rattle.rpki_rules.proofs.Sets.{octets_equal}
use Rattle.rpki_walk.proofs.Adding.{once_sorted}
use Rattle.rpki_walk.proofs.cost.walk.each_once.Goals as goal

pub returns-clause-same : goal.returns-clause-same
returns-clause-same c key =
    let s = c.in_ok-sort_once.ensures in
    let e : c.loop-key.all.items ≡ c.args.keys.now = c.loop-key.invariant ∙ take_all c.loop-key.key-index c.args.keys.now c.loop-key-test.false in (
      λ m. subst (λ (xs : List (List ℕ)). Mem xs key) e (s.from_old key m),
      λ m. let h = s.kept key (subst (λ (xs : List (List ℕ)). Mem xs key) (sym e) m) in subst (λ (k : List ℕ). Mem c.sort_once.new.values.items k) (sym (octets_equal key h.0 h.2)) h.1,
    )

pub returns-clause-apart : goal.returns-clause-apart
returns-clause-apart c = once_sorted _ c.in_ok-sort_once.ensures.sorted
