-- The attributes that a signer signs, as they are written: a SET OF in DER (RFC 5652 5.3, 5.4; RFC 6488 2.1.6.4; X.690 11.6).
use Rattle.std.specs.Prelude.{◌≡◌, ℕ, ◌^◌, ◌<◌, List, ◌∷◌, ◌++◌, length, Some, None}
use Rattle.objects_written.specs.bcder_tree.declared.mode.Mode.TheVariants.{Der}
use Rattle.objects_written.specs.bcder_tree.Tags.{sequence_tag, set_tag}
use Rattle.objects_written.specs.bcder_tree.Octets.{IsLength}
use Rattle.objects_written.specs.bcder_primitive.declared.written.error.EncodeError.{EncodeError}
use Rattle.objects_written.specs.bcder_primitive.declared.written.error.EncodeError.TheVariants as errors
use Rattle.objects_written.specs.bcder.Kinds.{octets, oid}
use Rattle.objects_written.specs.objects_payload.Identifiers as id
use Rattle.objects_written.specs.objects_payload.SignedAttributes.{AttributesValue}
use Rattle.certs.specs.Fields.{time}
use Rattle.certs.specs.Outputs.{Output, beside, inside, of}
use Rattle.objects_written.specs.Orders.{SetText}

-- What is signed: the type of the content, its digest, and when it is signed.
pub record ToSign : Type 0 where
  pub content_type : List ℕ
  pub digest : List ℕ
  pub time : ℕ

abbrev pub to_sign : List ℕ → List ℕ → ℕ → ToSign
to_sign content_type digest time =
    record { content_type = content_type; digest = digest; time = time }

abbrev pub attributes_of : ToSign → AttributesValue
attributes_of s = record {
  content_type = s.content_type;
  digest = s.digest;
  signing_time = Some s.time;
  binary_signing_time = None;
}

-- Attribute ::= SEQUENCE { attrType OBJECT IDENTIFIER, attrValues SET OF AttributeValue }, of one value (RFC 5652 5.3)
abbrev pub attribute : List ℕ → Output → Output
attribute kind value = inside sequence_tag (beside (of oid kind) (inside set_tag value))

-- RFC 5652 11.1 to 11.3
abbrev pub content_type : List ℕ → Output
content_type octets = attribute id.content_type (of oid octets)

abbrev pub message_digest : List ℕ → Output
message_digest digest = attribute id.message_digest (of octets digest)

abbrev pub signing_time : ℕ → Output
signing_time moment = attribute id.signing_time (time moment)

-- The three, one after the other, ascending by their octets.
pub record WritesAttributes (s : ToSign) (text : List ℕ) : Type 0 where
  pub type_text : List ℕ
  pub digest_text : List ℕ
  pub time_text : List ℕ
  pub type_is : (content_type s.content_type).writes Der type_text
  pub digest_is : (message_digest s.digest).writes Der digest_text
  pub time_is : (signing_time s.time).writes Der time_text
  pub set : SetText (type_text, (digest_text, time_text)) text

-- Why they aren't written: there is no text, or none whose octets can be counted, or no memory.
abbrev pub IsRefused : ToSign → EncodeError → Type 0
IsRefused s errors.CerUnsupported = (text : List ℕ) → WritesAttributes s text → ⊥
IsRefused s errors.TooLong = (text : List ℕ) → WritesAttributes s text → length text < 2 ^ 64 → ⊥
IsRefused s errors.Write = ⊥
IsRefused s errors.Memory = Unit {0}

-- What is signed: the attributes as a SET (49), with the shortest length (RFC 5652 5.4).
pub record IsMessage (attributes message : List ℕ) : Type 0 where
  pub size : List ℕ
  pub size_is : IsLength Der size (length attributes)
  pub whole : message ≡ 49 ∷ (size ++ attributes)

-- Why attributes in DER have no message: there is none whose octets can be counted, or no memory.
abbrev pub MessageRefused : List ℕ → EncodeError → Type 0
MessageRefused attributes errors.CerUnsupported = ⊥
MessageRefused attributes errors.TooLong =
    (message : List ℕ) → IsMessage attributes message → length message < 2 ^ 64 → ⊥
MessageRefused attributes errors.Write = ⊥
MessageRefused attributes errors.Memory = Unit {0}
