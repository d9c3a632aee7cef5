-- What was written is read again.
use Rattle.std.proofs.Common.{◌≢◌, ℕ, List, [], refl, sym, append-nil}
use Rattle.bcder_values.specs.bcder_tree.declared.mode.Mode.{Mode}
use Rattle.bcder_values.specs.bcder_tree.declared.mode.Mode.TheVariants.{Ber}
use Rattle.bcder_values.specs.bcder_tree.Tree.{Trees, SpellsAll}
use Rattle.bcder_values.proofs.of_bcder_tree.Canonical.{one_spellings}
use Rattle.bcder_values.specs.bcder_source.Views.{Moved}
use Rattle.bcder_content.specs.Contents.{Whole, TookAll, octets}
use Rattle.bcder_content.specs.ClosureReads.{fresh}
use Rattle.bcder_values.specs.bcder_primitive.Encoded.{SpellsSome}
use Rattle.bcder_values.specs.Returns.{ReadAgain, WrittenAlone}

-- All values of octets.
pub all_read : (m : Mode) (ts : Trees) (text : List ℕ) → SpellsAll m ts text → Whole (fresh m text) ts
all_read m ts text s =
    let moved : Moved (octets (fresh m text)) text (octets (fresh m [])) = record { rest = sym (append-nil text); limit = refl } in
    let took : TookAll (fresh m text) ts (fresh m []) = record { text = text; spelled = s; goes = record { moved = moved; mode = refl; end = refl; before = refl; behind = refl } } in
    record { behind = fresh m []; took = took; ended = record { sound = refl; ends = refl } }

pub read_again : (m : Mode) {T : Trees → Type 0} (text : List ℕ) → SpellsSome m T text → ReadAgain m T text
read_again m text s = record { trees = s.trees; is = s.is; whole = all_read m s.trees text s.spelled }

pub alone : (m : Mode) {T : Trees → Type 0} (text : List ℕ) → m ≢ Ber → SpellsSome m T text → WrittenAlone m T text
alone m text r s = record { trees = s.trees; is = s.is; spelled = s.spelled; alone = λ other h. one_spellings m s.trees other text r h s.spelled }
