use Rattle.std.proofs.Common.{◌≡◌, refl, sym, subst, Bool, true}
use Rattle.std.specs.Fn.{FnOnceReturnsAtMut}
use Rattle.bcder_content.specs.Either.{ValuesRun}
use Rattle.bcder_content.proofs.content.Content.constructed.Goals as goal

pub returns-clause-ran : goal.returns-clause-ran
returns-clause-ran g c =
    let met : FnOnceReturnsAtMut g.F.FnOnce c.args.op c.args.self.now.values.now c.op.result c.op.new.arg2 = record { shown = _; shows = refl; left = _; met = c.op.ensures; leaves = refl } in
    let is : true ≡ c.args.self.now.values.now.constructed = sym c.if-not-self.false in
    record { runs = subst (λ (b : Bool). ValuesRun g.S.Source.rest g.F.FnOnce c.args.op b c.args.self.now.values.now c.op.result c.op.new.arg2) is met }
