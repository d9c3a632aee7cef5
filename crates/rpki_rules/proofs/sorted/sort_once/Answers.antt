use Rattle.std.proofs.Common.{sym, ◌∙◌}
use Rattle.std.proofs.lemmas.List.Filters.{dedup_is}
use Rattle.std.proofs.lemmas.List.Kept.{Any-dedup, Contains-from_dedup, IsStrictlySortedBy-dedup}
use Rattle.std.proofs.lemmas.List.Sorted.{Contains-permutation, IsPermutation-sym}
use Rattle.rpki_rules.proofs.Orders.{mem_of_contains, contains_of_mem}
use Rattle.rpki_rules.proofs.Sets.{is_equal}
use Rattle.rpki_rules.proofs.sorted.sort_once.Goals as goal

pub returns-clause-sorted : goal.returns-clause-sorted
returns-clause-sorted g c =
    rw (dedup_is _ _ _ c.dedup.ensures.filtered) (IsStrictlySortedBy-dedup g.met.T.Ord.total g.met.T.Ord.matches_eq _ c.in_ok-sort.ensures.sorted)

pub returns-clause-from_old : goal.returns-clause-from_old
returns-clause-from_old g c x m =
    let is = dedup_is _ _ _ c.dedup.ensures.filtered in
    mem_of_contains _ x (Contains-permutation _ _ x (IsPermutation-sym _ _ c.in_ok-sort.ensures.permutation) (Contains-from_dedup _ _ x (rw is at (contains_of_mem _ x m))))

pub returns-clause-kept : goal.returns-clause-kept
returns-clause-kept g c x m =
    let is = dedup_is _ _ _ c.dedup.ensures.filtered in
    let h = Any-dedup g.met.T.Eq.laws _ x (Contains-permutation _ _ x c.in_ok-sort.ensures.permutation (contains_of_mem _ x m)) in
    (h.1, mem_of_contains _ h.1 (rw is (h.0, h.2, h.3)), is_equal _ (sym (g.met.T.Ord.matches_eq x h.1) ∙ h.4))
