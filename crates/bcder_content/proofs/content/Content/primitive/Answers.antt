use Rattle.std.proofs.Common.{◌≡◌, refl, sym, subst, Bool, false}
use Rattle.std.specs.Fn.{FnOnceReturnsAtMut}
use Rattle.bcder_content.specs.Either.{OctetsRun}
use Rattle.bcder_content.proofs.content.Content.primitive.Goals as goal

pub returns-clause-ran : goal.returns-clause-ran
returns-clause-ran g c =
    let met : FnOnceReturnsAtMut g.F.FnOnce c.args.op c.args.self.now.values.now.octets c.op.result c.op.new.arg2 = record { shown = _; shows = refl; left = _; met = c.op.ensures; leaves = refl } in
    let is : false ≡ c.args.self.now.values.now.constructed = sym c.if-self.false in
    record { runs = subst (λ (b : Bool). OctetsRun g.S.Source.rest g.F.FnOnce c.args.op b c.args.self.now.values.now c.op.result (record { octets = c.op.new.arg2; end = c.args.self.now.values.now.end; constructed = c.args.self.now.values.now.constructed })) is (refl, met) }
