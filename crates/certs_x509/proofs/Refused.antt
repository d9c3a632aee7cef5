-- Why nothing was written of signed data in DER.
use Rattle.std.proofs.Common.{◌≡◌, ◌≢◌, ℕ, List, ap, refl, subst}
use Rattle.certs_x509.specs.bcder_tree.declared.mode.Mode.TheVariants.{Der}
use Rattle.certs_x509.specs.bcder_values.Gathered.{ExtendRefused}
use Rattle.certs_x509.specs.bcder_primitive.Writing.{HasLength}
use Rattle.certs_x509.specs.bcder_primitive.declared.written.error.EncodeError.{EncodeError}
use Rattle.certs_x509.specs.bcder_primitive.declared.written.error.EncodeError.TheVariants as causes
use Rattle.certs_x509.specs.Signed.{SignedDataValue, signed, signed_fields}
use Rattle.certs_x509.specs.Captured.{CanBeCaptured, WritesSigned, signed_of}
use Rattle.certs_extension.specs.Cert.{SignedValue}
use Rattle.certs_x509.proofs.Few.{few_octets}

-- The signed data that a certificate's values tell.
abbrev data_of : SignedValue → SignedDataValue
data_of s = record {
  message = record { mode = s.mode; octets = s.message };
  signature = record { algorithm = s.has_null; bits = record { unused = s.unused; octets = s.signature } };
}

one_signed : (s w : SignedDataValue) → signed_of w ≡ signed_of s → w ≡ s
one_signed s w e = ap data_of e

-- What is written of what signed data tells is what is written of the data.
pub own_text : (s : SignedDataValue) (text : List ℕ) → WritesSigned (signed_of s) Der text → signed.writes (signed_fields s) Der text
own_text s text w = subst (λ (z : SignedDataValue). signed.writes (signed_fields z) Der text) (one_signed s w.value w.same) w.text_is

pub can_be_captured : (s : SignedDataValue) {n : ℕ} → HasLength (signed.writes (signed_fields s) Der) n → CanBeCaptured (signed_of s)
can_be_captured s h = (h.text, record { value = s; same = refl; text_is = h.is })

pub none_captured : (s : SignedDataValue) (e : EncodeError) → ExtendRefused (signed.trees (signed_fields s) Der) (signed.writes (signed_fields s) Der) e → e ≢ causes.Memory
    → CanBeCaptured (signed_of s) → ⊥
none_captured s causes.CerUnsupported r n w = let t = signed.spelled (signed_fields s) Der w.0 (own_text s w.0 w.1) in r t.trees t.is
none_captured s causes.TooLong r n w = let own = own_text s w.0 w.1 in r w.0 own (few_octets own)
none_captured s causes.Write r n w = r
none_captured s causes.Memory r n w = n refl
