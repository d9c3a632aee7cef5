-- The content octets of a BIT STRING, in each mode (X.690 8.6, 9.2, 11.2). Its constructed form is left out of this codec.
use Rattle.std.specs.Prelude.{◌≡◌, ℕ, ◌-◌, ◌%◌, ◌^◌, ◌≤◌, List, [], ◌∷◌, length}
use Rattle.bcder_octets.specs.bcder_tree.declared.mode.Mode.{Mode}
use Rattle.bcder_octets.specs.bcder_tree.declared.mode.Mode.TheVariants.{Ber, Cer, Der}
use Rattle.bcder_octets.specs.bcder_tree.Tags.{TagValue, universal}
use Rattle.bcder_octets.specs.Bits.{BitsValue, IsBits}

-- The last octet; 0 where there is none.
abbrev pub last_octet : List ℕ → ℕ
last_octet [] = 0
last_octet (a ∷ []) = a
last_octet (a ∷ b ∷ v) = last_octet (b ∷ v)

-- The unused bits are zero in CER and DER (11.2.1); in BER they may be set.
abbrev pub IsPadded : Mode → BitsValue → Type 0
IsPadded Ber v = Unit {0}
IsPadded Cer v = last_octet v.octets % 2 ^ v.unused ≡ 0
IsPadded Der v = last_octet v.octets % 2 ^ v.unused ≡ 0

-- In CER a primitive value has at most 1000 content octets (9.2).
abbrev pub IsShortIn : Mode → List ℕ → Type 0
IsShortIn Ber content = Unit {0}
IsShortIn Cer content = length content ≤ 1000
IsShortIn Der content = Unit {0}

-- BIT STRING: one octet that says how many bits of the last one are unused, and then the octets (8.6.2).
pub record IsBitString (m : Mode) (content : List ℕ) (v : BitsValue) : Type 0 where
  pub whole : content ≡ v.unused ∷ v.octets
  pub lawful : IsBits v
  pub padded : IsPadded m v
  pub short : IsShortIn m content

-- A value with the tag of bit strings, or another in its place.
abbrev pub bit_string_tag : TagValue
bit_string_tag = universal 3

-- The octets, where the unused bits of the last one are zero.
abbrev pub cleared : ℕ → List ℕ → List ℕ
cleared unused [] = []
cleared unused (a ∷ []) = (a - a % 2 ^ unused) ∷ []
cleared unused (a ∷ b ∷ v) = a ∷ cleared unused (b ∷ v)

-- A bit string with the padding of a mode: as it is in BER, zero in CER and DER (11.2.1).
abbrev pub padded_in : Mode → BitsValue → BitsValue
padded_in Ber v = v
padded_in Cer v = record { unused = v.unused; octets = cleared v.unused v.octets }
padded_in Der v = record { unused = v.unused; octets = cleared v.unused v.octets }

-- What is written of a bit string: the content with the same bits, with the mode's padding.
abbrev pub WritesBits : Mode → BitsValue → List ℕ → Type 0
WritesBits m v content = IsBitString m content (padded_in m v)

-- The content octets of any bit string.
pub record IsAnyBits (m : Mode) (content : List ℕ) (x : Unit {0}) : Type 0 where
  pub value : BitsValue
  pub is : IsBitString m content value
