use Rattle.std.proofs.Common.{◌≡◌, ◌∷◌, map, string_bytes, take}
use Rattle.rpki_questions.specs.certs_basics.Uris.{lookup_key}
use Rattle.rpki_validator.specs.rpki_rules.Views.{path_of}
use Rattle.rpki_questions.proofs.judging.asked_path.Given as goal

abbrev pub invariant-loop-uri : goal.invariant-loop-uri
invariant-loop-uri l = path_of l.path ≡ record { locator = l.locator; chain = map lookup_key (l.anchor ∷ map string_bytes (take l.uri-index l.below)) }
