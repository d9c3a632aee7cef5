use Rattle.std.proofs.Common.{ℕ, List, sym, ap, ◌∙◌, subst, bytes_eq}
use Rattle.std.specs.Cmp.Lexicographic.{slice_cmp}
use Rattle.std.specs.List.{list_any}
use Rattle.std.specs.List.Sorted.{IsSorted}
use Rattle.std.specs.Ordering.{nat_cmp}
use Rattle.rpki_walk.specs.Naming.{names_key}
use Rattle.rpki_walk.proofs.Halved.{halved}
use Rattle.rpki_walk.proofs.reach.keys.Wanted.has.Goals as goal

pub returns : goal.returns
returns c =
    let key = c.args.key.now in
    let keys = c.as_slice.result.now in
    let ascend = subst (λ (ks : List (List ℕ)). IsSorted (slice_cmp nat_cmp) ks) (sym c.as_slice.ensures.value) c.self.invariant.ascend in
    c.is_ok.ensures.value
    ∙ halved keys key c.binary_search.result ascend c.binary_search.ensures.bound c.binary_search.ensures.position
    ∙ ap (λ (ks : List (List ℕ)). list_any (λ k. bytes_eq key k) ks) c.as_slice.ensures.value
    ∙ c.self.invariant.same key
    ∙ ap (λ (us : List (List ℕ)). names_key us key) c.self.view_is
