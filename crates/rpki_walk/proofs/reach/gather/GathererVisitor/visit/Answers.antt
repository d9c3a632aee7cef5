use Rattle.std.proofs.Common.{◌≡◌, ℕ, false, true, List, ap, sym, subst, ◌∙◌}
use Rattle.rpki_rules.specs.Kinds.{InSet}
use Rattle.rpki_rules.specs.Views.{path_of}
use Rattle.rpki_walk.specs.Facts.{ReachedBy, Gains}
use Rattle.rpki_walk.specs.Gathered.{has_gathered, IsReaches}
use Rattle.rpki_walk.specs.Naming.{names_any}
use Rattle.rpki_walk.proofs.Named.{authority_names}
use Rattle.rpki_walk.proofs.Gathered.{none_gains, one_gains}
use Rattle.rpki_walk.proofs.reach.gather.GathererVisitor.visit.Goals as goal
use Rattle.rpki_walk.proofs.reach.gather.GathererVisitor.visit.Goals.{then-names_any+in_ok-held+in_ok-push, else-names_any}

pub returns-clause-gained : goal.returns-clause-gained
returns-clause-gained g c =
    let uris = c.args.self.now.wanted.now in
    let w = g.S.Repository.world c.args.repository.now in
    let sets = g.S.Repository.sets c.args.ca.now in
    let ca = g.S.Repository.cert c.args.ca.now in
    let path = path_of c.args._chain.now.path.now.value in let on = c.args._chain.now.keys.now in let uri = c.args._chain.now.uri.now in
    let tells = authority_names uris c.in_ok-keys.keys.items w ca c.in_ok-keys.ensures.named in
    let e : c.names_any.result ≡ names_any uris c.in_ok-keys.keys.items = c.names_any.ensures ∙ ap (λ (ks : List (List ℕ)). names_any uris ks) c.deref.ensures.value in
    elim c.if-names_any.branch [
      | then-names_any+in_ok-held+in_ok-push v ↦ subst (λ q. Gains IsReaches (has_gathered c.args.self.now) (ReachedBy uris w (InSet sets) on path uri ca) (has_gathered q)) (sym v.self-is)
          (one_gains c.args.self.now (record { wanted = c.args.self.now.wanted; sets = v.push.new.self }) uris w _ sets on path uri ca (tells.0 (sym e ∙ v.if-names_any.true)) v.in_ok-push.ensures.items v.in_ok-held.ensures)
      | else-names_any v ↦ subst (λ q. Gains IsReaches (has_gathered c.args.self.now) (ReachedBy uris w (InSet sets) on path uri ca) (has_gathered q)) (sym v.self-is)
          (none_gains c.args.self.now uris w sets on path uri ca (λ n. let f : false ≡ true = sym v.if-names_any.false ∙ (e ∙ tells.1 n) in cc))
    ]
