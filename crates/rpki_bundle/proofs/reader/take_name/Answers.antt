use Rattle.std.proofs.Common.{refl, sym, subst}
use Rattle.rpki_bundle.specs.bcder_tree.Tags.{printable_string_tag}
use Rattle.rpki_bundle.specs.bcder.Sets.{IsPrintable, alone}
use Rattle.rpki_bundle.specs.bcder_content.Here.{here}
use Rattle.rpki_bundle.proofs.of_bcder_content.Choices.{gives_same, such_gives, such_lacks, such_refused, stop_value}
use Rattle.rpki_bundle.proofs.of_bcder_content.Taking.{on_content}
use Rattle.rpki_bundle.specs.Bundle.{IsWord}
use Rattle.rpki_bundle.specs.RowLaws.{text}
use Rattle.rpki_bundle.proofs.reader.take_name.Goals as goal

pub returns-in_err-string-clause-reads : goal.returns-in_err-string-clause-reads
returns-in_err-string-clause-reads g c = stop_value _ _ _ _ c.from_residual.ensures (λ l. such_lacks l) c.in_err-string.ensures.reads

pub returns-then-not-is_word-clause-reads : goal.returns-then-not-is_word-clause-reads
returns-then-not-is_word-clause-reads g c = on_content _ (such_refused (text IsPrintable alone (here g.S.Source.rest c.args.cons.now).mode printable_string_tag) (gives_same c.into_bytes-name.ensures c.in_ok-string.ensures.reads) (λ h. let t = c.if-not-is_word.ensures.1 (subst IsWord (sym c.as_slice.ensures) h) in absurd cc))

pub returns-clause-reads : goal.returns-clause-reads
returns-clause-reads g c = such_gives (gives_same c.into_bytes-name.ensures c.in_ok-string.ensures.reads) (subst IsWord c.as_slice.ensures (c.if-not-is_word.ensures.0 refl))
