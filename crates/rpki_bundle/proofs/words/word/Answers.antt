use Rattle.std.proofs.Common.{arith}
use Rattle.rpki_bundle.proofs.DigestWords.{word_octets}
use Rattle.rpki_bundle.proofs.words.word.Goals as goal

pub returns : goal.returns
returns c = word_octets c.args.digest.now c.in-Some.octets.now c.args.start c.from_le_bytes.result (λ i. omega (arith, c.type_inv.digest i)) c.requires c.in-Some.ensures.cases.same c.from_le_bytes.ensures
