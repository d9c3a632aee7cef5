-- Length octets of both forms (X.690 8.1.3).
use Rattle.std.specs.Prelude.{◌≡◌, ℕ, ◌^◌, ◌<◌, List, [], ◌∷◌}
use Rattle.bcder_tree.specs.declared.mode.Mode.{Mode}
use Rattle.bcder_tree.specs.declared.length.Length.{Length}
use Rattle.bcder_tree.specs.declared.length.Length.TheVariants.{Definite, Indefinite}
use Rattle.bcder_tree.specs.Octets.{IsLength}

-- A definite length, or `80` for an indefinite one (8.1.3.6).
abbrev pub SpellsLength : Mode → Length → List ℕ → Type 0
SpellsLength m (Definite n) text = IsLength m text n
SpellsLength m Indefinite text = text ≡ 128 ∷ []

-- The octets spell the length in every mode, so they are the fewest.
abbrev pub SpellsEverywhere : Length → List ℕ → Type 0
SpellsEverywhere l text = (m : Mode) → SpellsLength m l text

-- Four octets can spell it.
abbrev pub IsWritable : Length → Type 0
IsWritable (Definite n) = n < 2 ^ 32
IsWritable Indefinite = Unit {0}
