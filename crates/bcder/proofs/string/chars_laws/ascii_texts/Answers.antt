use Rattle.bcder.specs.Sets.{IsNumeric, IsPrintable, IsIa5}
use Rattle.bcder.proofs.Ascii.{ascii_text}
use Rattle.bcder.proofs.string.chars_laws.ascii_texts.Goals as goal

pub returns : goal.returns
returns c = record { numeric = ascii_text IsNumeric; printable = ascii_text IsPrintable; ia5 = ascii_text IsIa5 }
