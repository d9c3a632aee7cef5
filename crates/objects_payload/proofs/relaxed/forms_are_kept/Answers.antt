use Rattle.objects_payload.proofs.RelaxedValues.{attributes_kept, bits_kept, boolean_kept, extension_kept, key_kept, string_kept}
use Rattle.objects_payload.proofs.RelaxedObjects.{signer_kept}
use Rattle.objects_payload.proofs.relaxed.forms_are_kept.Goals as goal

pub returns : goal.returns
returns c = record {
  strings = string_kept;
  bits = bits_kept;
  booleans = boolean_kept;
  extensions = extension_kept;
  keys = key_kept;
  attributes = attributes_kept;
  signers = signer_kept;
}
