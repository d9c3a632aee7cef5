use Rattle.std.proofs.Common.{rules, subst}
use Rattle.bcder_octets.specs.bcder_tree.declared.mode.Mode.{Mode}
use Rattle.bcder_octets.specs.bcder_content.Here.{plain}
use Rattle.bcder_octets.specs.bcder_primitive.Plain.{ReadsOctetsAs}
use Rattle.bcder_octets.proofs.of_bcder_content.Inside.{exact_octets}
use Rattle.bcder_octets.specs.BitContents.{IsAnyBits}
use Rattle.bcder_octets.proofs.bits.bit_string.BitString.skip_in.Goals as goal

pub returns-clause-reads : goal.returns-clause-reads
returns-clause-reads g c = exact_octets (record {
  each = λ p q r mode m.
      let h : ReadsOctetsAs (λ (x : Unit {0}). x) (IsAnyBits (plain g.S.Source.rest p.now).mode) (plain g.S.Source.rest p.now) r (plain g.S.Source.rest q.now) = search rules in
      subst (λ (z : Mode). ReadsOctetsAs (λ (x : Unit {0}). x) (IsAnyBits z) (plain g.S.Source.rest p.now) r (plain g.S.Source.rest q.now)) mode h;
}) c.take_primitive_if.ensures.ran
