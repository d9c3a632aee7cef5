use Rattle.std.proofs.Common.{◌≡◌, map, take}
use Rattle.rpki_walk.specs.rpki_bundle.Uris.{lookup_key}
use Rattle.rpki_walk.proofs.reach.keys.keys_of.Given as goal

abbrev pub invariant-loop-uri : goal.invariant-loop-uri
invariant-loop-uri l = l.keys.items ≡ map lookup_key (take l.uri-index l.uris)
