-- What a refusal says.
use Rattle.std.specs.Prelude.{◌≡◌, ℕ, List, []}
use Rattle.bcder_source.specs.declared.error.DecodeError.{DecodeError}
use Rattle.bcder_source.specs.declared.error.DecodeError.TheVariants.{Content, Source, Memory}

-- A fact for the refusal of the octets themselves.
abbrev pub OnContent : {E : Type 0} → DecodeError E → Type 0 → Type 0
OnContent (Content error pos) fact = fact
OnContent (Source error) fact = Unit {0}
OnContent Memory fact = Unit {0}

-- Both are of the same content at the same position, or both of memory.
abbrev pub SameCause : {E F : Type 0} → DecodeError E → DecodeError F → Type 0
SameCause (Content error pos) other = other ≡ Content error pos
SameCause (Source error) other = ⊥
SameCause Memory other = other ≡ Memory

-- Where the octets themselves are refused, none is left; memory has no part in it.
abbrev pub OnlyAtEnd : {E : Type 0} → DecodeError E → List ℕ → Type 0
OnlyAtEnd (Content error pos) rest = rest ≡ []
OnlyAtEnd (Source error) rest = Unit {0}
OnlyAtEnd Memory rest = ⊥

-- A fact for lack of memory.
abbrev pub OnMemory : {E : Type 0} → DecodeError E → Type 0 → Type 0
OnMemory (Content error pos) fact = Unit {0}
OnMemory (Source error) fact = Unit {0}
OnMemory Memory fact = fact

-- The refusal is of the octets themselves, and the fact holds, or the source failed.
abbrev pub OnlyContent : {E : Type 0} → DecodeError E → Type 0 → Type 0
OnlyContent (Content error pos) fact = fact
OnlyContent (Source error) fact = Unit {0}
OnlyContent Memory fact = ⊥

-- The refusal is of the octets themselves, and the fact holds: nothing is read of a source that may fail.
abbrev pub OnlyOctets : {E : Type 0} → DecodeError E → Type 0 → Type 0
OnlyOctets (Content error pos) fact = fact
OnlyOctets (Source error) fact = ⊥
OnlyOctets Memory fact = ⊥
