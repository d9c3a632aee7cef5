-- That what is written spells the values, and is always the same.
use Rattle.std.proofs.Common.{◌≡◌, ℕ, List, ◌++◌, refl, sym, ap, ◌∙◌, append_assoc, subst}
use Rattle.bcder_values.specs.bcder_tree.declared.mode.Mode.{Mode}
use Rattle.bcder_values.specs.bcder_tree.Tree.{Trees, none, more, SpellsAll}
use Rattle.bcder_values.specs.bcder_primitive.Encoded.{joined, AreBoth, WritesBoth, SpellsSome}

pub joined_spelled : (m : Mode) (ts us : Trees) (a b : List ℕ) → SpellsAll m ts a → SpellsAll m us b
    → SpellsAll m (joined ts us) (a ++ b)
joined_spelled m none us a b s t = subst (SpellsAll m us) (sym (ap (λ l. l ++ b) s)) t
joined_spelled m (more t ts) us a b s u = (s.0, s.1 ++ b, s.2, joined_spelled m ts us s.1 b s.3 u, ap (λ l. l ++ b) s.4 ∙ append_assoc s.0 s.1 b)

pub both_spelled : (m : Mode) {T U : Trees → Type 0} {P Q : List ℕ → Type 0}
    → ((text : List ℕ) → P text → SpellsSome m T text)
    → ((text : List ℕ) → Q text → SpellsSome m U text)
    → (text : List ℕ) → WritesBoth P Q text → SpellsSome m (AreBoth T U) text
both_spelled m p q text w =
    let a = p w.first w.is_first in
    let b = q w.second w.is_second in
    record {
      trees = joined a.trees b.trees;
      is = record {
        first = a.trees;
        second = b.trees;
        is_first = a.is;
        is_second = b.is;
        whole = refl;
      };
      spelled = subst (SpellsAll m (joined a.trees b.trees)) (sym w.whole)
          (joined_spelled m a.trees b.trees w.first w.second a.spelled b.spelled);
    }

pub both_one : {P Q : List ℕ → Type 0} → ((a b : List ℕ) → P a → P b → a ≡ b)
    → ((a b : List ℕ) → Q a → Q b → a ≡ b)
    → (a b : List ℕ) → WritesBoth P Q a → WritesBoth P Q b → a ≡ b
both_one p q a b v w = v.whole ∙ ap (λ l. l ++ v.second)
    (p v.first w.first v.is_first w.is_first) ∙ ap (λ l. w.first ++ l)
    (q v.second w.second v.is_second w.is_second) ∙ sym w.whole
