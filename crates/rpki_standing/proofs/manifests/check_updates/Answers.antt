use Rattle.rpki_rules.specs.World.{world_of}
use Rattle.rpki_standing.proofs.OwnManifests.{next_fails, this_fails}
use Rattle.rpki_standing.proofs.manifests.check_updates.Goals as goal

pub returns-then-not-is_made : goal.returns-then-not-is_made
returns-then-not-is_made c d v ca =
    this_fails (world_of d v c.args.index.now) ca c.args.manifest.now.signed c.args.manifest.now.content (λ p. let yes = c.is_made.ensures.1 p in let no = c.if-not-is_made.true in absurd cc)

pub returns-then-not-is_fresh : goal.returns-then-not-is_fresh
returns-then-not-is_fresh c d v ca =
    next_fails (world_of d v c.args.index.now) ca c.args.manifest.now.signed c.args.manifest.now.content (c.is_made.ensures.0 c.if-not-is_made.false) (λ p. let yes = c.is_fresh.ensures.1 p in let no = c.if-not-is_fresh.true in absurd cc)
