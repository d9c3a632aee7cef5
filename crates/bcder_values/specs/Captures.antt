-- Captured octets, as they are written again.
use Rattle.std.proofs.Common.{◌≡◌, ℕ, ◌⊎◌, inl, inr, List, sym, ◌∙◌, subst}
use Rattle.bcder_values.specs.bcder_tree.declared.mode.Mode.{Mode}
use Rattle.bcder_values.specs.bcder_tree.declared.mode.Mode.TheVariants.{Ber}
use Rattle.bcder_values.specs.bcder_tree.Tree.{Trees, SpellsAll}
use Rattle.bcder_content.proofs.of_bcder_tree.Modes.{all_to_ber}
use Rattle.bcder_content.specs.Kept.{CapturedValue, SpellsValues}
use Rattle.bcder_values.specs.bcder_primitive.Encoded.{SpellsSome}

-- Octets that were captured in one mode stand in it and, as each spelling does, in BER.
abbrev pub StandsIn : Mode → Mode → Type 0
StandsIn captured m = (m ≡ Ber) ⊎ (captured ≡ m)

-- The values that they spell.
pub record CapturedTrees (c : CapturedValue) (m : Mode) (ts : Trees) : Type 0 where
  pub stands : StandsIn c.mode m
  pub spelled : SpellsAll c.mode ts c.octets

-- The octets themselves.
pub record CapturedText (c : CapturedValue) (m : Mode) (text : List ℕ) : Type 0 where
  pub stands : StandsIn c.mode m
  pub values : SpellsValues c.mode c.octets
  pub whole : text ≡ c.octets

pub stands_spelled : (n m : Mode) (ts : Trees) (text : List ℕ) → StandsIn n m → SpellsAll n ts text
    → SpellsAll m ts text
stands_spelled n m ts text (inl e) s =
    subst (λ (k : Mode). SpellsAll k ts text) (sym e) (all_to_ber n ts text s)
stands_spelled n m ts text (inr e) s = subst (λ (k : Mode). SpellsAll k ts text) e s

pub captured_spelled : (c : CapturedValue) (m : Mode) (text : List ℕ) → CapturedText c m text
    → SpellsSome m (CapturedTrees c m) text
captured_spelled c m text w = record {
  trees = w.values.trees;
  is = record { stands = w.stands; spelled = w.values.spelled };
  spelled = subst (SpellsAll m w.values.trees) (sym w.whole)
      (stands_spelled c.mode m w.values.trees c.octets w.stands w.values.spelled);
}

pub captured_one : (c : CapturedValue) (m : Mode) (a b : List ℕ) → CapturedText c m a
    → CapturedText c m b → a ≡ b
captured_one c m a b v w = v.whole ∙ sym w.whole
