-- Values that are gathered spell values.
use Rattle.std.proofs.Common.{◌≡◌, ◌≤◌, ℕ, List, [], length, refl, ap, sym, subst, Option, Some, arith}
use Rattle.std.proofs.lemmas.List.{length-append}
use Rattle.bcder_values.specs.bcder_tree.declared.mode.Mode.{Mode}
use Rattle.bcder_values.specs.bcder_tree.Tree.{Trees, none, SpellsAll}
use Rattle.bcder_content.specs.Kept.{SpellsValues}
use Rattle.bcder_values.specs.bcder_primitive.Encoded.{joined, SpellsSome}
use Rattle.bcder_values.specs.Laws.{joined_spelled}
use Rattle.bcder_values.specs.bcder_primitive.Writing.{HasLength, Wrote, TookFront, WriteRefused, FillRefused}
use Rattle.bcder_values.specs.bcder_primitive.declared.written.error.EncodeError.{EncodeError}
use Rattle.bcder_values.specs.bcder_primitive.declared.written.error.EncodeError.TheVariants as errors

pub no_values : (m : Mode) (octets : List ℕ) → octets ≡ [] → SpellsValues m octets
no_values m octets e = record { trees = none; spelled = e }

pub more_values : (m : Mode) {T : Trees → Type 0} {P : List ℕ → Type 0} (old new : List ℕ) → ((text : List ℕ) → P text → SpellsSome m T text) → SpellsValues m old → Wrote P (Some old) (Some new) → SpellsValues m new
more_values m old new spelled v w =
    let s = spelled w.text w.is in
    record {
      trees = joined v.trees s.trees;
      spelled = subst (SpellsAll m (joined v.trees s.trees)) (sym w.appended) (joined_spelled m v.trees s.trees old w.text v.spelled s.spelled);
    }

-- A writer refuses only where there is something to write,
front_some : {P : List ℕ → Type 0} {old new : Option (List ℕ)} → TookFront P old new → (n : ℕ) × HasLength P n × (1 ≤ n)
front_some w = (length w.text, record { text = w.text; is = w.is; long = refl }, omega (arith, w.some, ap length w.whole, length-append w.taken w.others))

-- and so memory is wanted only there.
pub fill_wants : (T : Trees → Type 0) (P : List ℕ → Type 0) (same : Type 0) (old new : Option (List ℕ)) (e r : EncodeError)
    → WriteRefused T P same old new e → FillRefused e r → r ≡ errors.Memory → (n : ℕ) × HasLength P n × (1 ≤ n)
fill_wants T P same old new errors.CerUnsupported r h f m = absurd cc
fill_wants T P same old new errors.TooLong r h f m = absurd cc
fill_wants T P same old new errors.Write r h f m = front_some h
fill_wants T P same old new errors.Memory r h f m = absurd h
