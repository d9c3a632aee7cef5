use Rattle.std.proofs.Common.{◌≢◌}
use Rattle.objects_written.specs.bcder_tree.declared.mode.Mode.TheVariants.{Der}
use Rattle.objects_written.specs.bcder_primitive.declared.written.error.EncodeError.TheVariants as causes
use Rattle.objects_written.specs.bcder_values.Writable.{Writable}
use Rattle.objects_rta.specs.objects_cms.Signer.{signer_fields}
use Rattle.objects_written.specs.Frames.{signer}
use Rattle.objects_written.proofs.Refusing.{stopped}
use Rattle.objects_rta_written.specs.Signing.{fields_of}
use Rattle.objects_rta_written.proofs.Signing.{made_fields, not_refused, parts, same_fields, same_parts, unwritten_same}
use Rattle.objects_rta_written.proofs.draft.signing.put_together.Goals as goal

pub returns-in_err-octets-clause-refused : goal.returns-in_err-octets-clause-refused
returns-in_err-octets-clause-refused c =
    let sid = c.args.sid in
    let same = same_parts c.new-value.result c.as_slice.result.now sid c.args.attributes.now c.args.signature.now c.new-value.ensures c.as_slice.ensures.octets in
    stopped (λ e. e ≢ causes.Memory → Writable ((signer (parts sid c.args.attributes.now c.args.signature.now)).writes Der) → ⊥) _ c.in_err-octets.field-0.0 c.from_residual.ensures
    (unwritten_same c.new-value.result (parts sid c.args.attributes.now c.args.signature.now) same c.in_err-octets.field-0.0 c.in_err-octets.ensures.refused)

pub returns-in-Ok-clause-made : goal.returns-in-Ok-clause-made
returns-in-Ok-clause-made c = λ s are.
    let sid = c.args.sid in
    let same = same_parts c.new-value.result c.as_slice.result.now sid c.args.attributes.now c.args.signature.now c.new-value.ensures c.as_slice.ensures.octets in
    same_fields c.as_slice-2.result.now (signer_fields c.in-Ok.made) (fields_of sid c.args.attributes.now.octets s c.args.signature.now)
    (made_fields c.new-value.result (parts sid c.args.attributes.now c.args.signature.now) same s c.in_ok-octets.octets.octets c.as_slice-2.result.now c.as_slice-2.ensures.octets c.as_slice.ensures.lawful are c.in_ok-octets.ensures.captured)
    c.in-Ok.ensures.octets

pub unreachable-requires : goal.unreachable-requires
unreachable-requires c =
    let sid = c.args.sid in
    let same = same_parts c.new-value.result c.as_slice.result.now sid c.args.attributes.now c.args.signature.now c.new-value.ensures c.as_slice.ensures.octets in
    not_refused c.as_slice-2.result.now (fields_of sid c.args.attributes.now.octets c.requires.0 c.args.signature.now)
    (made_fields c.new-value.result (parts sid c.args.attributes.now c.args.signature.now) same c.requires.0 c.in_ok-octets.octets.octets c.as_slice-2.result.now c.as_slice-2.ensures.octets c.as_slice.ensures.lawful c.requires.1 c.in_ok-octets.ensures.captured)
    (rw c.in-Err-Content.field-0-is at c.in-Err-Content.ensures.reads)
