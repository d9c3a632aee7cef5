-- Values of which one is written, or none (X.680 clauses 25.8, 29).
use Rattle.std.proofs.Common.{◌≡◌, ℕ, List, Option, Some, None, refl, sym, ◌∙◌}
use Rattle.bcder_values.specs.bcder_tree.declared.mode.Mode.{Mode}
use Rattle.bcder_values.specs.bcder_tree.Tree.{Trees, none}
use Rattle.bcder_values.specs.declared.choice.Choice2.{Choice2}
use Rattle.bcder_values.specs.declared.choice.Choice2.TheVariants as two
use Rattle.bcder_values.specs.declared.choice.Choice3.{Choice3}
use Rattle.bcder_values.specs.declared.choice.Choice3.TheVariants as three
use Rattle.bcder_values.specs.bcder_primitive.Encoded.{NoTree, NoText, SpellsSome}

-- What is there, or nothing.
abbrev pub AreOptional : {V : Type 0} → (V → Trees → Type 0) → Option V → Trees → Type 0
AreOptional T None = NoTree
AreOptional T (Some v) = T v

abbrev pub WritesOptional : {V : Type 0} → (V → List ℕ → Type 0) → Option V → List ℕ → Type 0
WritesOptional P None = NoText
WritesOptional P (Some v) = P v

-- The one that is there.
abbrev pub AreEither : {L R : Type 0} → (L → Trees → Type 0) → (R → Trees → Type 0) → Choice2 L R
    → Trees → Type 0
AreEither T U (two.One v) = T v
AreEither T U (two.Two v) = U v

abbrev pub WritesEither : {L R : Type 0} → (L → List ℕ → Type 0) → (R → List ℕ → Type 0)
    → Choice2 L R → List ℕ → Type 0
WritesEither P Q (two.One v) = P v
WritesEither P Q (two.Two v) = Q v

abbrev pub AreOneOf : {L C R : Type 0} → (L → Trees → Type 0) → (C → Trees → Type 0)
    → (R → Trees → Type 0) → Choice3 L C R → Trees → Type 0
AreOneOf T U V (three.One v) = T v
AreOneOf T U V (three.Two v) = U v
AreOneOf T U V (three.Three v) = V v

abbrev pub WritesOneOf : {L C R : Type 0} → (L → List ℕ → Type 0) → (C → List ℕ → Type 0)
    → (R → List ℕ → Type 0) → Choice3 L C R → List ℕ → Type 0
WritesOneOf P Q R (three.One v) = P v
WritesOneOf P Q R (three.Two v) = Q v
WritesOneOf P Q R (three.Three v) = R v

-- That what is written spells the values, and is always the same.
pub nothing_spelled : (m : Mode) (text : List ℕ) → NoText text → SpellsSome m NoTree text
nothing_spelled m text e = record { trees = none; is = refl; spelled = e }

pub nothing_one : (a b : List ℕ) → NoText a → NoText b → a ≡ b
nothing_one a b p q = p ∙ sym q

pub optional_spelled : (m : Mode) {V : Type 0} {T : V → Trees → Type 0} {P : V → List ℕ → Type 0}
    → ((v : V) (text : List ℕ) → P v text → SpellsSome m (T v) text)
    → (x : Option V) (text : List ℕ) → WritesOptional P x text → SpellsSome m (AreOptional T x) text
optional_spelled m f None = nothing_spelled m
optional_spelled m f (Some v) = f v

pub optional_one : {V : Type 0} {P : V → List ℕ → Type 0}
    → ((v : V) (a b : List ℕ) → P v a → P v b → a ≡ b) → (x : Option V) (a b : List ℕ)
    → WritesOptional P x a → WritesOptional P x b → a ≡ b
optional_one f None = nothing_one
optional_one f (Some v) = f v

pub either_spelled : (m : Mode) {L R : Type 0} {T : L → Trees → Type 0} {U : R → Trees → Type 0}
    {P : L → List ℕ → Type 0} {Q : R → List ℕ → Type 0}
    → ((v : L) (text : List ℕ) → P v text → SpellsSome m (T v) text)
    → ((v : R) (text : List ℕ) → Q v text → SpellsSome m (U v) text)
    → (x : Choice2 L R) (text : List ℕ) → WritesEither P Q x text
    → SpellsSome m (AreEither T U x) text
either_spelled m f g (two.One v) = f v
either_spelled m f g (two.Two v) = g v

pub either_one : {L R : Type 0} {P : L → List ℕ → Type 0} {Q : R → List ℕ → Type 0}
    → ((v : L) (a b : List ℕ) → P v a → P v b → a ≡ b)
    → ((v : R) (a b : List ℕ) → Q v a → Q v b → a ≡ b)
    → (x : Choice2 L R) (a b : List ℕ) → WritesEither P Q x a → WritesEither P Q x b → a ≡ b
either_one f g (two.One v) = f v
either_one f g (two.Two v) = g v

pub one_of_spelled : (m : Mode) {L C R : Type 0} {T : L → Trees → Type 0} {U : C → Trees → Type 0}
    {V : R → Trees → Type 0} {P : L → List ℕ → Type 0} {Q : C → List ℕ → Type 0}
    {S : R → List ℕ → Type 0}
    → ((v : L) (text : List ℕ) → P v text → SpellsSome m (T v) text)
    → ((v : C) (text : List ℕ) → Q v text → SpellsSome m (U v) text)
    → ((v : R) (text : List ℕ) → S v text → SpellsSome m (V v) text)
    → (x : Choice3 L C R) (text : List ℕ) → WritesOneOf P Q S x text
    → SpellsSome m (AreOneOf T U V x) text
one_of_spelled m f g h (three.One v) = f v
one_of_spelled m f g h (three.Two v) = g v
one_of_spelled m f g h (three.Three v) = h v

pub one_of_one : {L C R : Type 0} {P : L → List ℕ → Type 0} {Q : C → List ℕ → Type 0}
    {S : R → List ℕ → Type 0}
    → ((v : L) (a b : List ℕ) → P v a → P v b → a ≡ b)
    → ((v : C) (a b : List ℕ) → Q v a → Q v b → a ≡ b)
    → ((v : R) (a b : List ℕ) → S v a → S v b → a ≡ b)
    → (x : Choice3 L C R) (a b : List ℕ) → WritesOneOf P Q S x a → WritesOneOf P Q S x b → a ≡ b
one_of_one f g h (three.One v) = f v
one_of_one f g h (three.Two v) = g v
one_of_one f g h (three.Three v) = h v
