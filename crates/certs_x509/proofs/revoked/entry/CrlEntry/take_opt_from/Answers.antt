use Rattle.certs_x509.specs.Entries.{AreEntryFields, entry_fields}
use Rattle.certs_extension.specs.CrlText.{as_revoked}
use Rattle.certs_x509.proofs.of_bcder_content.InMode.{inside_opt}
use Rattle.certs_x509.proofs.of_bcder_content.Meaning.{opt_meaning}
use Rattle.certs_x509.proofs.revoked.entry.CrlEntry.take_opt_from.Goals as goal

pub returns-clause-reads : goal.returns-clause-reads
returns-clause-reads g c = opt_meaning entry_fields as_revoked _ _ _ _ _ (inside_opt {P = AreEntryFields} (record { each = λ p q r h. h.0 }) c.take_opt_sequence.ensures.ran)
