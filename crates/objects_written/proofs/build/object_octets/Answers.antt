use Rattle.std.proofs.Common.{ap, ◌∙◌}
use Rattle.objects_written.specs.certs_extension.Cert.{TbsValue}
use Rattle.objects_written.proofs.Building.{object_told}
use Rattle.std.proofs.lemmas.Result.{err_from_is_err_and}
use Rattle.objects_written.proofs.Refused.{cert_unwritten, object_unwritten}
use Rattle.objects_written.proofs.build.object_octets.Goals as goal

pub returns-clause-written : goal.returns-clause-written
returns-clause-written c =
    let own = c.subject_key_identifier-sid.ensures ∙ ap (λ (t : TbsValue). t.subject_key_identifier) c.tbs.ensures in
    object_told c.args.content.now.content_type.now c.args.content.now.octets.now c.args.cert.now c.args.attributes.now c.in_ok-carried.carried c.subject_key_identifier-sid.result _ c.args.signature.now _ _ c.in_ok-carried.ensures.captured own
    c.as_slice.ensures.lawful c.as_slice.ensures.octets c.new-signer.ensures c.new-value.ensures c.to_captured-2.result c.to_captured-2.ensures.captured

pub returns-in_err-carried-clause-refused : goal.returns-in_err-carried-clause-refused
returns-in_err-carried-clause-refused c =
    let p = err_from_is_err_and c.from_residual.result c.from_residual.ensures.1 in
    rw (p.1, p.2) (cert_unwritten c.args.content.now.content_type.now c.args.content.now.octets.now c.args.cert.now c.args.attributes.now c.args.signature.now _ c.in_err-carried.ensures.refused)

pub returns-clause-refused : goal.returns-clause-refused
returns-clause-refused c =
    let own = c.subject_key_identifier-sid.ensures ∙ ap (λ (t : TbsValue). t.subject_key_identifier) c.tbs.ensures in
    object_unwritten c.args.content.now.content_type.now c.args.content.now.octets.now c.args.cert.now c.args.attributes.now c.in_ok-carried.carried c.subject_key_identifier-sid.result _ c.args.signature.now _ _ c.in_ok-carried.ensures.captured own
    c.as_slice.ensures.octets c.new-signer.ensures c.new-value.ensures c.to_captured-2.result c.to_captured-2.ensures.refused
