use Rattle.bcder.proofs.Unicode.{utf8_text}
use Rattle.bcder.proofs.string.chars_laws.utf8_texts.Goals as goal

pub returns : goal.returns
returns c = utf8_text
