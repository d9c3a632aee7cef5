use Rattle.std.proofs.Common.{refl}
use Rattle.bcder_primitive.specs.Values.{Skipped}
use Rattle.bcder_primitive.proofs.Primitives.{gives_rest}
use Rattle.bcder_primitive.proofs.primitive.Primitive.skip_all.Goals as goal

pub returns-in-Ok-clause-reads : goal.returns-in-Ok-clause-reads
returns-in-Ok-clause-reads g c = gives_rest Skipped (record { any = tt }) c.if-self.false c.in-Ok.ensures.moved c.in-Ok.ensures.spent refl refl
