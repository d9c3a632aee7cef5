use Rattle.std.proofs.Common.{rules, subst, Bool}
use Rattle.bcder_content.specs.bcder_tree.declared.mode.Mode.{Mode}
use Rattle.bcder_content.specs.Here.{plain}
use Rattle.bcder_primitive.specs.Plain.{ReadsOctetsAs}
use Rattle.bcder_primitive.specs.Values.{IsBoolean}
use Rattle.bcder_content.proofs.Inside.{exact_opt_octets}
use Rattle.bcder_content.proofs.constructed.Constructed.take_opt_bool.Goals as goal

pub returns-clause-reads : goal.returns-clause-reads
returns-clause-reads g c = exact_opt_octets (record {
  each = λ p q r mode m.
      let h : ReadsOctetsAs (λ (b : Bool). b) (IsBoolean (plain g.S.Source.rest p.now).mode) (plain g.S.Source.rest p.now) r (plain g.S.Source.rest q.now) = search rules in
      subst (λ (z : Mode). ReadsOctetsAs (λ (b : Bool). b) (IsBoolean z) (plain g.S.Source.rest p.now) r (plain g.S.Source.rest q.now)) mode h;
}) c.take_opt_primitive_if.ensures.ran
