-- Key usages that are written (RFC 6487 4.8.4).
use Rattle.std.specs.Prelude.{ℕ, List, [], ◌∷◌}
use Rattle.certs_extension.specs.bcder_primitive.Values.{AnyOctets}
use Rattle.certs_extension.specs.bcder_tree.declared.mode.Mode.{Mode}
use Rattle.certs_extension.specs.bcder_primitive.Encoded.{WritesPlain}
use Rattle.certs_extension.specs.bcder_octets.BitContents.{bit_string_tag}
use Rattle.certs_extension.specs.declared.forms.KeyUsage.{KeyUsage}
use Rattle.certs_extension.specs.declared.forms.KeyUsage.TheVariants.{Ca, Ee}

-- The count of unused bits, and then keyCertSign and cRLSign, or digitalSignature alone.
abbrev pub usage_octets : KeyUsage → List ℕ
usage_octets Ca = 1 ∷ 6 ∷ []
usage_octets Ee = 7 ∷ 128 ∷ []

-- What is written of a usage.
abbrev pub WritesUsage : Mode → KeyUsage → List ℕ → Type 0
WritesUsage m u = WritesPlain m bit_string_tag (λ content. AnyOctets content (usage_octets u))
