use Rattle.std.proofs.Common.{refl, subst, IfErr}
use Rattle.bcder_octets.specs.bcder_tree.declared.mode.Mode.{Mode}
use Rattle.bcder_octets.specs.bcder_tree.Strings.{IsString}
use Rattle.bcder_octets.specs.bcder_source.declared.error.DecodeError.{DecodeError}
use Rattle.bcder_octets.specs.bcder_content.Here.{plain}
use Rattle.bcder_octets.specs.bcder_content.Memory.{OnMemory}
use Rattle.bcder_values.specs.bcder_content.Ahead.{HasOctets}
use Rattle.bcder_values.proofs.of_bcder_content.Wants.{content_wants}
use Rattle.bcder_octets.specs.Parts.{IsWhole}
use Rattle.bcder_octets.proofs.Strings.{whole_string, string_whole, primitive_reads, constructed_read, not_primitive}
use Rattle.bcder_octets.proofs.Wanting.{one_wants, parts_want}
use Rattle.bcder_octets.proofs.reading.read_content.Goals as goal

pub returns-then-is_primitive-clause-reads : goal.returns-then-is_primitive-clause-reads
returns-then-is_primitive-clause-reads g c = record {
  same = c.primitive.ensures.same;
  reads = λ tag. primitive_reads IsWhole IsString whole_string string_whole _ _ _ tag _ (λ p q r h. h.0) (c.is_primitive.ensures.0 c.if-is_primitive.true) c.primitive.ensures.ran (record { left_is = refl });
}

pub returns-then-is_primitive-clause-memory : goal.returns-then-is_primitive-clause-memory
returns-then-is_primitive-clause-memory g c =
    one_wants IsWhole g.S.Source.rest c.args.content.now c.primitive.result (content_wants _ _ _ (record {
      each = λ p q r mode h. subst (λ (z : Mode). IfErr r (λ (e : DecodeError _). OnMemory e (HasOctets (IsWhole z) (plain g.S.Source.rest p.now)))) mode h.1;
    }) c.primitive.ensures.ran)

pub returns-clause-reads : goal.returns-clause-reads
returns-clause-reads g c = record {
  same = c.constructed.ensures.same;
  reads = λ tag. constructed_read _ _ _ tag _ (λ p q r h. h.0) (not_primitive _ c.is_primitive.ensures c.if-is_primitive.false) c.constructed.ensures.ran (record { left_is = refl });
}

pub returns-clause-memory : goal.returns-clause-memory
returns-clause-memory g c =
    parts_want IsWhole g.S.Source.rest c.args.content.now _ c.constructed.result (λ p q r h. h.1) (not_primitive _ c.is_primitive.ensures c.if-is_primitive.false) c.constructed.ensures.ran
