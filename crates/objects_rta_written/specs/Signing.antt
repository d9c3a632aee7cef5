-- How a signer is made (RFC 5652 5.3, 5.4).
use Rattle.std.specs.Prelude.{ℕ, List, true}
use Rattle.objects_written.specs.bcder.Identifiers.{IsIdentifier}
use Rattle.objects_written.specs.objects_payload.ObjectText.{SignerFields}
use Rattle.objects_written.specs.Attributes.{IsMessage, ToSign, WritesAttributes, attributes_of}

-- A signature of attributes: over them as a SET in DER.
pub record SignsThem (Signs : List ℕ → List ℕ → Type 0) (attributes signature : List ℕ)
    : Type 0 where
  pub message : List ℕ
  pub message_is : IsMessage attributes message
  pub is : Signs message signature

-- Octets are those of attributes for a content of a known type.
pub record AreAttributesOf (s : ToSign) (octets : List ℕ) : Type 0 where
  pub known : IsIdentifier s.content_type
  pub written : WritesAttributes s octets

-- The fields of a signer with that identifier, these attributes and that signature.
abbrev pub fields_of : List ℕ → List ℕ → ToSign → List ℕ → SignerFields
fields_of sid octets s signature =
    (tt, (sid, (tt, ((octets, attributes_of s), (true, (signature, tt))))))
