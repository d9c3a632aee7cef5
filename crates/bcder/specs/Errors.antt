-- What a refusal of a text says.
use Rattle.bcder.specs.declared.string.error.RestrictedStringError.{RestrictedStringError}
use Rattle.bcder.specs.declared.string.error.RestrictedStringError.TheVariants.{CharSet, Memory}

-- A fact where a character was refused.
abbrev pub OnCharSet : RestrictedStringError → Type 0 → Type 0
OnCharSet CharSet fact = fact
OnCharSet Memory fact = Unit {0}

-- A fact where memory was wanted.
abbrev pub OnMemory : RestrictedStringError → Type 0 → Type 0
OnMemory CharSet fact = Unit {0}
OnMemory Memory fact = fact
