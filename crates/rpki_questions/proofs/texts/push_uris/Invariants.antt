use Rattle.std.proofs.Common.{◌≡◌, ◌++◌, ◌∷◌, take}
use Rattle.std.specs.Prelude.{flat_map}
use Rattle.rpki_questions.proofs.texts.push_uris.Given as goal

abbrev pub invariant-loop-uri : goal.invariant-loop-uri
invariant-loop-uri l = l.text.items ≡ l.initial.text.items ++ flat_map (λ uri. 32 ∷ uri) (take l.uri-index l.uris)
