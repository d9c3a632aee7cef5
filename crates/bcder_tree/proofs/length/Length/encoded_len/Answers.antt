use Rattle.std.proofs.Common.{length, ap, subst}
use Rattle.bcder_tree.specs.declared.length.Length.{Length}
use Rattle.bcder_tree.specs.declared.mode.Mode.TheVariants.{Der}
use Rattle.bcder_tree.specs.Lengths.{SpellsLength}
use Rattle.bcder_tree.proofs.length.Length.encoded_len.Goals as goal

pub returns-in-Definite-clause-len : goal.returns-in-Definite-clause-len
returns-in-Definite-clause-len c = λ text h. c.shortest_len.ensures.len text (subst (λ (l : Length). SpellsLength Der l text) c.in-Definite.is (h Der))

pub returns-in-Indefinite-clause-len : goal.returns-in-Indefinite-clause-len
returns-in-Indefinite-clause-len c = λ text h. ap length (subst (λ (l : Length). SpellsLength Der l text) c.in-Indefinite.is (h Der))
