-- Octets that spell AS numbers.
use Rattle.std.specs.Prelude.{ℕ, List}
use Rattle.objects_payload.specs.bcder_tree.declared.mode.Mode.{Mode}
use Rattle.objects_payload.specs.bcder_content.Grammar.{Many}
use Rattle.objects_payload.specs.bcder_content.Kept.{CapturedValue}
use Rattle.objects_payload.specs.bcder_content.Texts.{InOrder}
use Rattle.objects_payload.specs.resources_asn.Encodings.{IsAsId}

abbrev pub captured : Mode → List ℕ → CapturedValue
captured mode octets = record { mode = mode; octets = octets }

-- The octets spell these AS numbers, one after the other.
abbrev pub SpellsAsIds : CapturedValue → List ℕ → Type 0
SpellsAsIds c = InOrder c.mode (Many IsAsId) c.octets
