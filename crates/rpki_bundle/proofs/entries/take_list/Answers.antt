use Rattle.std.proofs.Common.{refl, sym, subst}
use Rattle.rpki_bundle.specs.bcder_tree.declared.mode.Mode.{Mode}
use Rattle.rpki_bundle.specs.bcder_content.Grammar.{Many}
use Rattle.rpki_bundle.proofs.of_bcder_content.Choices.{such_gives, such_lacks, such_refused, stop_value}
use Rattle.rpki_bundle.proofs.of_bcder_content.Inside.{exact_each}
use Rattle.rpki_bundle.proofs.of_bcder_content.Taking.{on_content}
use Rattle.rpki_bundle.proofs.of_bcder_content.Unique.{inside_one, many_one}
use Rattle.rpki_bundle.specs.Orders.{Ascends}
use Rattle.rpki_bundle.proofs.of_bcder_content.Modes.{all_in}
use Rattle.rpki_bundle.proofs.entries.take_list.Goals as goal

pub returns-in_err-entries-clause-reads : goal.returns-in_err-entries-clause-reads
returns-in_err-entries-clause-reads g c = stop_value _ _ _ _ c.from_residual.ensures (λ l. such_lacks l) (exact_each (record { each = λ p q r m h. all_in _ (λ (z : Mode). Many (g.E.Entry.form z)) _ _ r m h }) c.in_err-entries.ensures.ran)

pub returns-then-not-is_ascending-clause-reads : goal.returns-then-not-is_ascending-clause-reads
returns-then-not-is_ascending-clause-reads g c = on_content _ (such_refused (inside_one (many_one (g.met.E.Entry.one_value _))) (exact_each (record { each = λ p q r m h. all_in _ (λ (z : Mode). Many (g.E.Entry.form z)) _ _ r m h }) c.in_ok-entries.ensures.ran) (λ a. let t = c.if-not-is_ascending.ensures.1 (subst (Ascends g.E.Entry.sort_key) (sym c.as_slice.ensures.value) a) in absurd cc))

pub returns-clause-reads : goal.returns-clause-reads
returns-clause-reads g c = such_gives (exact_each (record { each = λ p q r m h. all_in _ (λ (z : Mode). Many (g.E.Entry.form z)) _ _ r m h }) c.in_ok-entries.ensures.ran) (subst (Ascends g.E.Entry.sort_key) c.as_slice.ensures.value (c.if-not-is_ascending.ensures.0 refl))
