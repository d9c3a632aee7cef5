use Rattle.rpki_bundle.proofs.of_bcder_content.InMode.{inside_opt}
use Rattle.rpki_bundle.specs.Bundle.{as_verdict, AreVerdictFields}
use Rattle.rpki_bundle.specs.Words.{words_fields}
use Rattle.rpki_bundle.proofs.Reading.{opt_meaning}
use Rattle.rpki_bundle.proofs.forms.take_words.Goals as goal

pub returns-clause-reads : goal.returns-clause-reads
returns-clause-reads g c = opt_meaning words_fields as_verdict _ _ _ _ _ (inside_opt {P = λ m. AreVerdictFields} (record { each = λ p q r h. h }) c.take_opt_sequence.ensures.ran)
