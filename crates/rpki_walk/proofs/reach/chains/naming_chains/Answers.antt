use Rattle.std.proofs.Common.{ℕ, List, map, refl, ap, subst}
use Rattle.rpki_rules.specs.Views.{path_of}
use Rattle.rpki_walk.specs.Facts.{Chains}
use Rattle.rpki_walk.specs.Chained.{AreNamingChains, path_cmp}
use Rattle.rpki_rules.proofs.Sets.{set_of}
use Rattle.rpki_walk.proofs.Chained.{chains_are, one_path}
use Rattle.rpki_walk.proofs.reach.chains.naming_chains.Goals as goal

pub returns-clause-chains : goal.returns-clause-chains
returns-clause-chains g c =
    let w = g.S.Repository.world c.args.repository.now in
    let s = c.in_ok-sort_once.ensures in
    let sorted = set_of (λ p. path_of p.value) path_cmp one_path _ _ _ s.sorted s.from_old s.kept (λ x y. refl) in
    let found = chains_are c.in_ok-wanted.wanted w (map (λ p. path_of p.value) c.new-2.result.items) _ _ (ap (λ ps. map (λ p. path_of p.value) ps) c.new-2.ensures.items)
    (λ v. c.in_ok-walk_all.ensures.gained (Chains v) tt) sorted in
    subst (λ (us : List (List ℕ)). AreNamingChains us w (map (λ p. path_of p.value) c.sort_once.new.values.items)) c.in_ok-wanted.ensures found
