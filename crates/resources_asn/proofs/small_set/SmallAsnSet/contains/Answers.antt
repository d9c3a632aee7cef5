use Rattle.std.proofs.Common.{List, ap, sym, subst, ◌∙◌}
use Rattle.resources_asn.specs.Numbers.{Number}
use Rattle.resources_asn.specs.Listed.{IsAscending}
use Rattle.resources_asn.specs.Chosen.{values}
use Rattle.resources_asn.proofs.SmallLemmas.{searched_tells}
use Rattle.resources_asn.proofs.small_set.SmallAsnSet.contains.Goals as goal

pub returns : goal.returns
returns c =
    let P : List Number → Type 0 = λ us. IsAscending (values us) in
    searched_tells c.deref.result.now c.args.self.now c.args.asn.value c.binary_search.result c.is_ok.result
    (ap values c.deref.ensures.value ∙ c.self.view_is) (subst P (sym c.deref.ensures.value) c.self.invariant) c.binary_search.ensures.position c.binary_search.ensures.bound c.is_ok.ensures.value
