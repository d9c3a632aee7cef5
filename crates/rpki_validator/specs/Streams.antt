-- What was read of a reader, and written to a writer, as far as their octets are known.
use Rattle.std.specs.Prelude.{◌≡◌, ℕ, ◌+◌, ◌<◌, ◌⊎◌, List, ◌++◌, Option, Result, Ok, Err, length}
use Rattle.std.specs.Io.KnownBytes.{Consumes, Appends, IsAtEnd}
use Rattle.rpki_validator.specs.declared.streams.ReadFault.{ReadFault}
use Rattle.rpki_validator.specs.declared.streams.ReadFault.TheVariants as faults

-- The reader gave these octets, and then said that there are no more, or had given as many as the limit allows.
pub record ReadsUpTo (limit : ℕ) (old new : Option (List ℕ)) (octets : List ℕ) : Type 0 where
  pub consumed : Consumes old new octets
  pub ended : IsAtEnd new ⊎ (length octets ≡ limit)

-- The count of failures rises by one at the fault of a read, and by nothing else.
abbrev pub ReadFails : {T : Type 0} → Result T ReadFault → ℕ → ℕ → Type 0
ReadFails (Ok text) old new = new ≡ old
ReadFails (Err faults.Read) old new = new ≡ old + 1
ReadFails (Err faults.Memory) old new = new ≡ old

-- The writer took a front of the text, and not all of it.
pub record TakesSome (old new : Option (List ℕ)) (text : List ℕ) : Type 0 where
  pub taken : List ℕ
  pub others : List ℕ
  pub lacks : 0 < length others
  pub whole : text ≡ taken ++ others
  pub appended : Appends old new taken
