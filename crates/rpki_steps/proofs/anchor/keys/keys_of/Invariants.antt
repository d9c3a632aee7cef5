use Rattle.std.proofs.Common.{◌≡◌, map, take}
use Rattle.rpki_standing.specs.objects_payload.Uris.{text_of}
use Rattle.rpki_standing.specs.certs_basics.Uris.{lookup_key}
use Rattle.rpki_steps.proofs.anchor.keys.keys_of.Given as goal

abbrev pub invariant-loop-uri : goal.invariant-loop-uri
invariant-loop-uri l = l.keys.items ≡ map lookup_key (map text_of (take l.uri-index l.uris))
