use Rattle.std.proofs.Common.{length}
use Rattle.bcder_content.specs.Here.{here, SameFrame}
use Rattle.bcder_content.proofs.SkipContents.{AllUnder}
use Rattle.bcder_content.proofs.constructed.Constructed.skip_all.Given as goal

abbrev pub invariant-loop-error : goal.invariant-loop-error
invariant-loop-error g l = record {
  under : AllUnder (here g.S.Source.rest l.fn.self) (here g.S.Source.rest l.self);
  frame : SameFrame l.fn.self l.self;
}

abbrev pub decreases-loop-error : goal.decreases-loop-error
decreases-loop-error g l = length (g.S.Source.rest l.self.octets.source.source)
