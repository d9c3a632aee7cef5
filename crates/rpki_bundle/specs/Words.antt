-- The octets of digests in words.
use Rattle.std.specs.Prelude.{List, ℕ, [], ◌∷◌, flat_map}
use Rattle.std.specs.Int.{to_le_bytes, w64}
use Rattle.rpki_bundle.specs.declared.parts.Verdict.{Verdict}
use Rattle.rpki_bundle.specs.declared.words.DigestWords.{DigestWords}
use Rattle.rpki_bundle.specs.declared.words.VerdictWords.{VerdictWords}
use Rattle.rpki_bundle.specs.Bundle.{Digests}

-- Each word has eight octets, the lowest first.
abbrev pub octets_of : DigestWords → List ℕ
octets_of w = flat_map (to_le_bytes w64) (w.first ∷ w.second ∷ w.third ∷ w.fourth ∷ [])

abbrev pub verdict_of : VerdictWords → Verdict
verdict_of v = record {
  key = octets_of v.key;
  message = octets_of v.message;
  signature = octets_of v.signature;
}

abbrev pub words_fields : VerdictWords → Digests
words_fields v = (octets_of v.key, (octets_of v.message, (octets_of v.signature, tt)))
