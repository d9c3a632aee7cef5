-- What is written of an entry of a revocation list (RFC 5280 5.1.2.6).
use Rattle.std.specs.Prelude.{ℕ, List}
use Rattle.certs_x509.specs.bcder_tree.declared.mode.Mode.{Mode}
use Rattle.certs_x509.specs.bcder_tree.Tags.{TagValue, integer_tag, sequence_tag}
use Rattle.certs_x509.specs.bcder_primitive.Values.{AnyOctets}
use Rattle.certs_x509.specs.bcder_number.Integers.{IsNatural}
use Rattle.certs_x509.specs.bcder_primitive.Encoded.{WritesBoth, WritesPlain, WritesWrapped}
use Rattle.certs_extension.specs.CrlText.{RevokedValue}

-- A SEQUENCE of the serial number, and of a time that has this tag and these octets.
abbrev pub WritesEntry : RevokedValue → TagValue → List ℕ → Mode → List ℕ → Type 0
WritesEntry e tag content m =
    WritesWrapped m sequence_tag
    (WritesBoth (WritesPlain m integer_tag (λ octets. IsNatural octets e.serial))
    (WritesPlain m tag (λ octets. AnyOctets octets content)))
