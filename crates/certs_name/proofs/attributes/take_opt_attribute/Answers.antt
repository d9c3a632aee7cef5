use Rattle.certs_name.proofs.of_bcder_content.InMode.{inside_opt}
use Rattle.certs_name.proofs.of_bcder_content.Meaning.{opt_meaning}
use Rattle.certs_name.specs.Inspected.{IsSeenBody, seen_fields, seen_of}
use Rattle.certs_name.proofs.attributes.take_opt_attribute.Goals as goal

pub returns-clause-reads : goal.returns-clause-reads
returns-clause-reads g c = opt_meaning seen_fields seen_of _ _ _ _ _ (inside_opt {P = IsSeenBody c.args.strict} (record { each = λ p q r h. h.0 }) c.take_opt_sequence.ensures.ran)
