-- Why signed attributes have no message.
use Rattle.std.proofs.Common.{◌≡◌, ◌≤◌, ℕ, List, [], ◌∷◌, length, Result, Ok, Err, IfErr, inr, refl, arith}
use Rattle.objects_written.specs.bcder_tree.declared.mode.Mode.TheVariants.{Der}
use Rattle.objects_written.specs.bcder_tree.Tags.{set_tag}
use Rattle.objects_written.specs.bcder_tree.Tree.{constructed, definite, more, none}
use Rattle.objects_written.specs.bcder_content.Kept.{CapturedValue, SpellsValues}
use Rattle.objects_written.specs.bcder_primitive.Encoded.{IsWrapped, WritesWrapped}
use Rattle.objects_written.specs.bcder_primitive.declared.written.error.EncodeError.{EncodeError}
use Rattle.objects_written.specs.bcder_primitive.declared.written.error.EncodeError.TheVariants as errors
use Rattle.objects_written.specs.bcder_primitive.Writing.{HasLength}
use Rattle.certs_key.proofs.of_bcder_tree.Fronts.{length_bound}
use Rattle.objects_written.specs.bcder_values.Captures.{CapturedText, CapturedTrees}
use Rattle.objects_written.specs.bcder_values.Gathered.{ExtendRefused}
use Rattle.objects_written.specs.Attributes.{IsMessage, MessageRefused}
use Rattle.objects_written.proofs.Sets.{message_is}

-- A message of values in DER is what is written of them as a SET.
message_written : (c : CapturedValue) (text : List ℕ) → c.mode ≡ Der → SpellsValues c.mode c.octets → IsMessage c.octets text → WritesWrapped Der set_tag (CapturedText c Der) text
message_written c text mode values message = record {
  content = c.octets;
  is = record { stands = inr mode; values = values; whole = refl };
  few = (length_bound Der message.size (length c.octets) message.size_is).1;
  spelled = definite tt (49 ∷ message.size) (record {
    identifier = 49 ∷ [];
    size = message.size;
    whole = refl;
    tag = (omega arith, omega arith);
    identifier_is = (refl, omega arith);
    size_is = message.size_is;
  }) message.whole;
}

message_error : (c : CapturedValue) → c.mode ≡ Der → SpellsValues c.mode c.octets → (e : EncodeError)
    → ExtendRefused (IsWrapped set_tag (CapturedTrees c Der)) (WritesWrapped Der set_tag (CapturedText c Der)) e → MessageRefused c.octets e
message_error c mode values errors.CerUnsupported h =
    h (more (constructed set_tag values.trees) none) (record { values = values.trees; is = record { stands = inr mode; spelled = values.spelled }; whole = refl })
message_error c mode values errors.TooLong h = λ text message few. h text (message_written c text mode values message) few
message_error c mode values errors.Write h = h
message_error c mode values errors.Memory h = tt

pub message_stop : {A : Type 0} (c : CapturedValue) → c.mode ≡ Der → SpellsValues c.mode c.octets → (r : Result A EncodeError)
    → IfErr r (ExtendRefused (IsWrapped set_tag (CapturedTrees c Der)) (WritesWrapped Der set_tag (CapturedText c Der))) → IfErr r (MessageRefused c.octets)
message_stop c mode values (Ok x) h = tt
message_stop c mode values (Err e) h = message_error c mode values e h

-- There is the message that memory was lacking for.
pub message_lacked : {A : Type 0} (c : CapturedValue) (r : Result A EncodeError)
    → IfErr r (λ e. e ≡ errors.Memory → (n : ℕ) × HasLength (WritesWrapped Der set_tag (CapturedText c Der)) n × (1 ≤ n))
    → IfErr r (λ e. e ≡ errors.Memory → (message : List ℕ) × IsMessage c.octets message)
message_lacked c (Ok x) h = tt
message_lacked c (Err e) h = λ m. let k = h m in (k.1.text, message_is c k.1.text k.1.is)
