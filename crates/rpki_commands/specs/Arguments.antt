-- What a program's arguments ask for.
use Rattle.std.specs.Prelude.{◌≡◌, ℕ, Option, Some, None, List, [], ◌∷◌, codes}
use Rattle.rpki_commands.specs.declared.arguments.Command.{Command}
use Rattle.rpki_commands.specs.declared.arguments.Command.TheVariants.{Check, Bundle}

-- `check` alone comes after the program's name.
abbrev pub AsksCheck : List (List ℕ) → Type 0
AsksCheck words = (program : List ℕ) × (words ≡ program ∷ codes "check" ∷ [])

-- `bundle` and the folder stand there.
abbrev pub AsksBundle : List (List ℕ) → List ℕ → Type 0
AsksBundle words folder = (program : List ℕ) × (words ≡ program ∷ codes "bundle" ∷ folder ∷ [])

-- The command is what the words ask for; there is none where they ask for nothing of that.
abbrev pub Asks : List (List ℕ) → Option Command → Type 0
Asks words None = (AsksCheck words → ⊥) × ((folder : List ℕ) → AsksBundle words folder → ⊥)
Asks words (Some Check) = AsksCheck words
Asks words (Some (Bundle folder)) = AsksBundle words folder.now
