use Rattle.std.proofs.Common.{ℕ, [], ◌∷◌, ◌++◌, Option, Some, ap, ◌∙◌}
use Rattle.std.proofs.lemmas.Map.Text.{btree_map_updates_str}
use Rattle.objects_rta_valid.proofs.keyed.KeyPlaces.add.Goals as goal

pub returns : goal.returns
returns c = record {
  told = λ k. btree_map_updates_str c.args.key.now c.args.self.now.last c.insert.new.self (Some c.args.place) c.in_ok-insert.ensures.updates k;
  behind = c.in_ok-push.ensures.items ∙ ap (λ (o : Option ℕ). c.args.self.now.before.items ++ o ∷ []) c.last-before.ensures;
}
