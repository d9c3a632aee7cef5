use Rattle.rpki_bundle.proofs.DigestWords.{four_words}
use Rattle.rpki_bundle.proofs.words.DigestWords.of.Goals as goal

pub returns : goal.returns
returns c = four_words c.args.digest.now _ _ _ _ c.requires c.word.ensures c.word-2.ensures c.word-3.ensures c.word-4.ensures
