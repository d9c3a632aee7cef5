use Rattle.std.proofs.Common.{◌≡◌, sym, ◌∙◌, subst}
use Rattle.bcder_octets.specs.bcder_tree.declared.mode.Mode.{Mode}
use Rattle.bcder_octets.specs.bcder_tree.declared.mode.Mode.TheVariants.{Ber, Cer, Der}
use Rattle.bcder_values.proofs.of_bcder_content.Wants.{wants}
use Rattle.bcder_octets.specs.bcder_content.Exact.{ReadsAllAs}
use Rattle.bcder_octets.specs.bcder_content.Here.{here}
use Rattle.bcder_octets.specs.Parts.{AreParts}
use Rattle.bcder_octets.proofs.reading.take_parts.Goals as goal

pub returns-in-Ber-clause-reads : goal.returns-in-Ber-clause-reads
returns-in-Ber-clause-reads g c = subst (λ (m : Mode). ReadsAllAs (λ octets. octets) (AreParts m) (here g.S.Source.rest c.args.cons.now) c.take_nested.result (here g.S.Source.rest c.take_nested.new.cons)) (sym c.in-Ber.is ∙ c.mode.ensures) c.take_nested.ensures

pub returns-in-Cer-clause-reads : goal.returns-in-Cer-clause-reads
returns-in-Cer-clause-reads g c = subst (λ (m : Mode). ReadsAllAs (λ octets. octets) (AreParts m) (here g.S.Source.rest c.args.cons.now) c.take_cut.result (here g.S.Source.rest c.take_cut.new.cons)) (sym c.in-Cer.is ∙ c.mode.ensures) c.take_cut.ensures

pub returns-in-Ber-clause-memory : goal.returns-in-Ber-clause-memory
returns-in-Ber-clause-memory g c = wants c.take_nested.result (λ der. let e : Ber ≡ Der = sym c.in-Ber.is ∙ c.mode.ensures ∙ der in absurd cc)

pub returns-in-Cer-clause-memory : goal.returns-in-Cer-clause-memory
returns-in-Cer-clause-memory g c = wants c.take_cut.result (λ der. let e : Cer ≡ Der = sym c.in-Cer.is ∙ c.mode.ensures ∙ der in absurd cc)
