use Rattle.std.proofs.Common.{rules, subst, IfErr}
use Rattle.bcder_octets.specs.bcder_tree.declared.mode.Mode.{Mode}
use Rattle.bcder_octets.specs.bcder_content.Here.{plain}
use Rattle.bcder_octets.specs.bcder_primitive.Plain.{ReadsOctetsAs}
use Rattle.bcder_octets.proofs.of_bcder_content.Inside.{exact_octets}
use Rattle.bcder_octets.specs.Bits.{BitsValue}
use Rattle.bcder_octets.specs.BitContents.{IsBitString}
use Rattle.bcder_octets.specs.bcder_source.declared.error.DecodeError.{DecodeError}
use Rattle.bcder_octets.specs.bcder_content.Memory.{OnMemory}
use Rattle.bcder_values.specs.bcder_content.Ahead.{HasOctets}
use Rattle.bcder_values.proofs.of_bcder_content.Wants.{octets_want}
use Rattle.bcder_octets.proofs.bits.bit_string.BitString.take_from.Goals as goal

pub returns-clause-reads : goal.returns-clause-reads
returns-clause-reads g c = exact_octets (record {
  each = λ p q r mode m.
      let h : ReadsOctetsAs (λ (v : BitsValue). v) (IsBitString (plain g.S.Source.rest p.now).mode) (plain g.S.Source.rest p.now) r (plain g.S.Source.rest q.now) = search rules in
      subst (λ (z : Mode). ReadsOctetsAs (λ (v : BitsValue). v) (IsBitString z) (plain g.S.Source.rest p.now) r (plain g.S.Source.rest q.now)) mode h;
}) c.take_primitive_if.ensures.ran

pub returns-clause-memory : goal.returns-clause-memory
returns-clause-memory g c = octets_want _ _ c.take_primitive_if.result (record {
  each = λ p q r mode m.
      let h : IfErr r (λ (e : DecodeError _). OnMemory e (HasOctets (IsBitString (plain g.S.Source.rest p.now).mode) (plain g.S.Source.rest p.now))) = search rules in
      subst (λ (z : Mode). IfErr r (λ (e : DecodeError _). OnMemory e (HasOctets (IsBitString z) (plain g.S.Source.rest p.now)))) mode h;
}) c.take_primitive_if.ensures.memory
