use Rattle.std.proofs.Common.{◌≡◌, [], rules}
use Rattle.rpki_rules.specs.World.{world_of}
use Rattle.rpki_steps.proofs.NameLemmas.{listed_none, listed_told}
use Rattle.rpki_steps.proofs.manifest.listed_keys.Goals as goal

pub returns-in-Ok : goal.returns-in-Ok
returns-in-Ok c =
    listed_told c.args.index.now c.args.ca.now c.in-Ok.manifest c.content.result.now c.keys_by-keys.result c.content.ensures (λ d v. rw c.in-Ok.is at (c.in_ok-manifest.ensures d v)) c.keys_by-keys.ensures

pub returns-in-Err : goal.returns-in-Err
returns-in-Err c =
    let none : c.new.result.items ≡ [] = search rules in
    λ d v. listed_none (world_of d v c.args.index.now) c.args.ca.now c.new.result.items (rw c.in-Err.is at (c.in_ok-manifest.ensures d v)).0 none
