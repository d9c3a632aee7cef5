use Rattle.std.proofs.Common.{inl, inr}
use Rattle.rpki_standing.specs.declared.payloads.names.Extension.TheVariants as extension
use Rattle.rpki_steps.proofs.FileLemmas.{as_cert_file, as_payload_file, has_this, no_extension}
use Rattle.rpki_steps.proofs.file.judged_file.Goals as goal

pub returns-in-Some-Cer-clause-judged : goal.returns-in-Some-Cer-clause-judged
returns-in-Some-Cer-clause-judged g c =
    as_cert_file _ c.args.ca.now c.args.point.now.point c.args.uri.now c.judged_cert_file.result (has_this c.args.uri.now extension.Cer (rw c.in-Some-Cer.field-0-is at c.in-Some-Cer.ensures)) c.judged_cert_file.ensures.judged

pub returns-in-Some-Roa-clause-judged : goal.returns-in-Some-Roa-clause-judged
returns-in-Some-Roa-clause-judged g c =
    as_payload_file _ c.args.ca.now c.args.point.now.point c.args.uri.now c.judged_payload_file.result (inl (has_this c.args.uri.now extension.Roa (rw c.in-Some-Roa.field-0-is at c.in-Some-Roa.ensures))) c.judged_payload_file.ensures.judged

pub returns-in-Some-Asa-clause-judged : goal.returns-in-Some-Asa-clause-judged
returns-in-Some-Asa-clause-judged g c =
    as_payload_file _ c.args.ca.now c.args.point.now.point c.args.uri.now c.judged_payload_file-in-Some-Asa.result (inr (has_this c.args.uri.now extension.Asa (rw c.in-Some-Asa.field-0-is at c.in-Some-Asa.ensures))) c.judged_payload_file-in-Some-Asa.ensures.judged

pub returns-in-None-clause-judged : goal.returns-in-None-clause-judged
returns-in-None-clause-judged g c =
    λ l. no_extension _ c.args.uri.now c.in-None.ensures
