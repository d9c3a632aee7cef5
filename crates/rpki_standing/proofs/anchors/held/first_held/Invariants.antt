use Rattle.std.proofs.Common.{drop, map}
use Rattle.objects_payload.specs.Uris.{text_of}
use Rattle.rpki_rules.specs.Certs.{Digests, Verdicts}
use Rattle.rpki_rules.specs.World.{world_of}
use Rattle.rpki_standing.proofs.FirstHeld.{Passes}
use Rattle.rpki_standing.proofs.anchors.held.first_held.Given as goal

abbrev pub invariant-loop-uri : goal.invariant-loop-uri
invariant-loop-uri l = (d : Digests) (v : Verdicts) → Passes (world_of d v l.index) (map text_of (drop l.uri-index l.uris)) (map text_of l.uris)
