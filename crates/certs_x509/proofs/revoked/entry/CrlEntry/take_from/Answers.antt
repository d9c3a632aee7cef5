use Rattle.certs_x509.specs.Entries.{AreEntryFields, entry_fields}
use Rattle.certs_extension.specs.CrlText.{as_revoked}
use Rattle.certs_x509.proofs.of_bcder_content.Choices.{as_reads}
use Rattle.certs_x509.proofs.of_bcder_content.InMode.{inside}
use Rattle.certs_x509.proofs.revoked.entry.CrlEntry.take_from.Goals as goal

pub returns-clause-reads : goal.returns-clause-reads
returns-clause-reads g c = as_reads entry_fields _ as_revoked _ _ _ (inside {P = AreEntryFields} (record { each = λ p q r h. h.0 }) c.take_sequence.ensures.ran)
