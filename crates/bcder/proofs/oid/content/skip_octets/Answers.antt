use Rattle.std.proofs.Common.{◌≡◌, true, false, sym, ◌∙◌}
use Rattle.bcder.specs.bcder_primitive.Plain.{plain}
use Rattle.bcder.proofs.of_bcder_primitive.Primitives.{through, weaker, refused_whole}
use Rattle.bcder.specs.Identifiers.{AreOctets}
use Rattle.bcder.proofs.of_bcder_content.Wholes.{gives_front, lacks_any}
use Rattle.bcder.proofs.oid.content.skip_octets.Goals as goal

pub returns-in_err-count-clause-reads : goal.returns-in_err-count-clause-reads
returns-in_err-count-clause-reads g c =
    through (λ (x : Unit {0}). x) (AreOctets c.args.expected.now) (plain g.S.Source.rest c.args.prim.now) _ c.from_residual.result c.in_err-count.field-0.0 c.from_residual.ensures.0 c.from_residual.ensures.1
    (weaker c.in_err-count.field-0.0 (lacks_any (AreOctets c.args.expected.now) (plain g.S.Source.rest c.args.prim.now)) c.in_err-count.ensures.refused)

pub returns-then-is_expected-clause-reads : goal.returns-then-is_expected-clause-reads
returns-then-is_expected-clause-reads g c =
    gives_front (AreOctets c.args.expected.now) c.in_ok-count.ensures.same c.in_ok-count.ensures.sound c.in_ok-count.ensures.all c.front.ensures.value c.front.ensures.there (record { same = c.are_same-is_expected.ensures.0 c.if-is_expected.true }) c.pass.ensures

pub returns-clause-reads : goal.returns-clause-reads
returns-clause-reads g c =
    refused_whole (AreOctets c.args.expected.now) c.refuse.result c.in_ok-count.ensures.same c.in_ok-count.ensures.all c.front.ensures.value
    (λ x is. let h : true ≡ false = sym (c.are_same-is_expected.ensures.1 is.same) ∙ c.if-is_expected.false in absurd cc) c.refuse.ensures.error
