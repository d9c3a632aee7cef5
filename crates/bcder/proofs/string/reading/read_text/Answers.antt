use Rattle.std.proofs.Common.{refl, subst, IfErr}
use Rattle.bcder.specs.bcder_tree.declared.mode.Mode.{Mode}
use Rattle.bcder.specs.bcder_source.declared.error.DecodeError.{DecodeError}
use Rattle.bcder.specs.bcder_content.Ahead.{HasOctets}
use Rattle.bcder.specs.bcder_content.Here.{plain}
use Rattle.bcder.specs.bcder_content.Memory.{OnMemory}
use Rattle.bcder.proofs.of_bcder_content.Wants.{content_wants}
use Rattle.bcder_octets.proofs.Strings.{primitive_reads, not_primitive}
use Rattle.bcder_octets.proofs.Wanting.{one_wants, parts_only, mapped}
use Rattle.bcder.specs.Restricted.{IsRestricted, IsWholeText}
use Rattle.bcder.proofs.Texts.{whole_text, text_whole}
use Rattle.bcder.proofs.string.reading.read_text.Goals as goal

pub returns-then-is_primitive-clause-reads : goal.returns-then-is_primitive-clause-reads
returns-then-is_primitive-clause-reads g c = record {
  same = c.primitive.ensures.same;
  reads = λ tag. primitive_reads (IsWholeText g.L.CharSet.has g.L.CharSet.spell) (IsRestricted g.L.CharSet.has g.L.CharSet.spell) whole_text text_whole _ _ _ tag _ (λ p q r h. h.0) (c.is_primitive.ensures.0 c.if-is_primitive.true) c.primitive.ensures.ran (record { left_is = refl });
}

pub returns-then-is_primitive-clause-memory : goal.returns-then-is_primitive-clause-memory
returns-then-is_primitive-clause-memory g c =
    let Has = g.L.CharSet.has in
    let spell = g.L.CharSet.spell in
    one_wants (IsWholeText Has spell) g.S.Source.rest c.args.content.now c.primitive.result (content_wants _ _ _ (record {
      each = λ p q r mode h. subst (λ (z : Mode). IfErr r (λ (e : DecodeError _). OnMemory e (HasOctets (IsWholeText Has spell z) (plain g.S.Source.rest p.now)))) mode h.1;
    }) c.primitive.ensures.ran)

pub returns-clause-memory : goal.returns-clause-memory
returns-clause-memory g c = mapped c.gather_text.result (λ w. parts_only (not_primitive _ c.is_primitive.ensures c.if-is_primitive.false) w) c.gather_text.ensures.memory
