use Rattle.std.proofs.Common.{◌≡◌, map, string_bytes, take}
use Rattle.rpki_questions.proofs.keys.octets_of.Given as goal

abbrev pub invariant-loop-text : goal.invariant-loop-text
invariant-loop-text l = l.octets.items ≡ map string_bytes (take l.text-index l.texts)
