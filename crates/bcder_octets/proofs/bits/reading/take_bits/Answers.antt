use Rattle.std.proofs.Common.{◌≡◌, take, drop, Some, ◌∙◌, subst}
use Rattle.bcder_octets.specs.bcder_primitive.Plain.{OctetsLeft, plain}
use Rattle.bcder_octets.proofs.of_bcder_primitive.Primitives.{gives_whole}
use Rattle.bcder_octets.specs.BitContents.{IsBitString}
use Rattle.bcder_values.proofs.of_bcder_content.Wants.{no_want_through, wants}
use Rattle.bcder_octets.proofs.BitReadings.{has_bits}
use Rattle.bcder_octets.proofs.bits.reading.take_bits.Goals as goal

pub returns-clause-reads : goal.returns-clause-reads
returns-clause-reads g c =
    let had = c.in_ok-count.ensures in
    let got = c.in_ok-bits.ensures in
    let rest = g.S.Source.rest in
    gives_whole (IsBitString c.args.prim.now.mode) had.sound had.all had.there
    (subst (λ (v : OctetsLeft). IsBitString v.mode (take c.in_ok-count.count v.rest) c.in_ok-bits.bits) had.same got.is)
    (subst (λ (v : OctetsLeft). plain rest c.pass.new.prim ≡ record v { rest = drop c.in_ok-count.count v.rest; limit = Some 0 }) (got.same ∙ had.same) c.pass.ensures)

pub returns-in_err-count-clause-memory : goal.returns-in_err-count-clause-memory
returns-in_err-count-clause-memory g c = no_want_through _ _ c.from_residual.result _ c.from_residual.ensures.0 c.from_residual.ensures.1 c.in_err-count.ensures.refused

pub returns-in_err-bits-clause-memory : goal.returns-in_err-bits-clause-memory
returns-in_err-bits-clause-memory g c =
    let had = c.in_ok-count.ensures in
    wants c.from_residual-in_err-bits.result (has_bits had.sound had.all had.there had.is)
