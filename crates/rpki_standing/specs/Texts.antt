-- What octets are by the extension of their file's name (RFC 6481 2.2).
use Rattle.std.specs.Prelude.{ℕ, Bool, List, Option, Some, None}
use Rattle.rpki_standing.specs.declared.payloads.names.Extension.{Extension}
use Rattle.rpki_standing.specs.declared.payloads.names.Extension.TheVariants as extension
use Rattle.rpki_rules.specs.Objects.{Object, RoaText, AspaText}
use Rattle.rpki_rules.specs.Attests.{Payload, OfRoa, OfAspa}
use Rattle.rpki_standing.specs.Published.{PublishedValue}

-- The octets begin with an object of that extension's kind, where strict in DER, and else in BER; a certificate is none.
abbrev pub TextOf : Bool → Extension → List ℕ → Object → Payload → Type 0
TextOf strict extension.Cer octets o x = ⊥
TextOf strict extension.Roa octets o (OfRoa r) = RoaText strict octets o r
TextOf strict extension.Roa octets o (OfAspa a) = ⊥
TextOf strict extension.Asa octets o (OfRoa r) = ⊥
TextOf strict extension.Asa octets o (OfAspa a) = AspaText strict octets o a

-- What they begin with, or that they begin with none.
abbrev pub FindsText : Bool → Extension → List ℕ → Option PublishedValue → Type 0
FindsText strict e octets None = (o : Object) (x : Payload) → ¬ (TextOf strict e octets o x)
FindsText strict e octets (Some s) = TextOf strict e octets s.object s.payload
