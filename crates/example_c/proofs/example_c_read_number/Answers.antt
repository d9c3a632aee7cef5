use Rattle.std.proofs.Common.{refl}
use Rattle.example_c.proofs.Refusals.{refused}
use Rattle.example_c.proofs.example_c_read_number.Goals as goal

pub returns-in-Err : goal.returns-in-Err
returns-in-Err c = (refused _ c.in-Err.ensures.reads c.in-Err.ensures.no_memory, refl)

pub returns : goal.returns
returns c = record {
  tree = c.in-Ok.ensures.reads.0;
  rest = c.in-Ok.ensures.reads.1;
  front = c.in-Ok.ensures.reads.2;
  is = c.in-Ok.ensures.reads.3;
}
