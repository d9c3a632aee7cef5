use Rattle.std.proofs.Common.{◌≡◌, ℕ, false, true, List, ap, sym, subst, ◌∙◌}
use Rattle.rpki_rules.specs.Views.{path_of}
use Rattle.rpki_rules.specs.Kinds.{InSet}
use Rattle.rpki_walk.specs.Facts.{Gains, ReachedBy}
use Rattle.rpki_walk.specs.Chained.{has_chained, IsChains}
use Rattle.rpki_walk.specs.Naming.{names_any}
use Rattle.rpki_walk.proofs.Named.{authority_names}
use Rattle.rpki_walk.proofs.Chained.{none_gains, one_gains, seen_more}
use Rattle.rpki_walk.proofs.reach.chains.NamerVisitor.visit.Goals as goal
use Rattle.rpki_walk.proofs.reach.chains.NamerVisitor.visit.Goals.{then-names_any+in_ok-clone+in_ok-push, else-names_any}

pub returns-clause-gained : goal.returns-clause-gained
returns-clause-gained g c =
    let uris = c.args.self.now.wanted.now in
    let w = g.S.Repository.world c.args.repository.now in
    let held = InSet (g.S.Repository.sets c.args.ca.now) in
    let ca = g.S.Repository.cert c.args.ca.now in
    let path = path_of c.args.chain.now.path.now.value in let on = c.args.chain.now.keys.now in let uri = c.args.chain.now.uri.now in
    let tells = authority_names uris c.in_ok-keys.keys.items w ca c.in_ok-keys.ensures.named in
    let e : c.names_any.result ≡ names_any uris c.in_ok-keys.keys.items = c.names_any.ensures ∙ ap (λ (ks : List (List ℕ)). names_any uris ks) c.deref.ensures.value in
    elim c.if-names_any.branch [
      | then-names_any+in_ok-clone+in_ok-push v ↦ subst (λ q. Gains IsChains (has_chained c.args.self.now) (ReachedBy uris w held on path uri ca) (has_chained q)) (sym v.self-is)
          (one_gains uris w held on path uri ca c.args.self.now (record { wanted = c.args.self.now.wanted; paths = v.push.new.self }) (tells.0 (sym e ∙ v.if-names_any.true)) _
          (seen_more (λ p. path_of p.value) c.args.self.now.paths.items v.push.new.self.items _ v.in_ok-push.ensures.items) (ap path_of v.in_ok-clone.ensures.cases))
      | else-names_any v ↦ subst (λ q. Gains IsChains (has_chained c.args.self.now) (ReachedBy uris w held on path uri ca) (has_chained q)) (sym v.self-is)
          (none_gains uris w held on path uri ca c.args.self.now (λ n. let f : false ≡ true = sym v.if-names_any.false ∙ (e ∙ tells.1 n) in cc))
    ]
