use Rattle.std.proofs.Common.{refl}
use Rattle.bcder_content.specs.Here.{here}
use Rattle.bcder_content.specs.ClosureReads.{refused_in, failed_in}
use Rattle.bcder_content.proofs.Decoding.{begins}
use Rattle.bcder_content.proofs.Memories.{wanted}
use Rattle.bcder_content.proofs.Taking.{on_content}
use Rattle.bcder_content.proofs.constructed.Constructed.decode.Goals as goal

pub returns-in-Err-clause-decoded : goal.returns-in-Err-clause-decoded
returns-in-Err-clause-decoded g c = record {
  cases = on_content c.in-Err.error (refused_in (here g.S.Source.rest c.op.new.arg2) (record {
    given = _;
    left = c.op.new.arg2;
    starts = begins g.S.Source.rest c.args.mode c.new-source.ensures c.into_source.ensures;
    met = record { shown = _; shows = refl; left = _; met = c.in-Err.ensures; leaves = refl };
    ends = refl;
  }));
}

pub returns-then-content-clause-decoded : goal.returns-then-content-clause-decoded
returns-then-content-clause-decoded g c = record {
  cases = on_content c.content_err.result (failed_in (here g.S.Source.rest c.op.new.arg2) c.in-Ok.value (record {
    given = _;
    left = c.op.new.arg2;
    starts = begins g.S.Source.rest c.args.mode c.new-source.ensures c.into_source.ensures;
    met = record { shown = _; shows = refl; left = _; met = c.in-Ok.ensures; leaves = refl };
    ends = refl;
  }) c.if-content.true);
}

pub returns-clause-decoded : goal.returns-clause-decoded
returns-clause-decoded g c = record {
  cases = (
    here g.S.Source.rest c.op.new.arg2,
    record {
      given = _;
      left = c.op.new.arg2;
      starts = begins g.S.Source.rest c.args.mode c.new-source.ensures c.into_source.ensures;
      met = record { shown = _; shows = refl; left = _; met = c.in-Ok.ensures; leaves = refl };
      ends = refl;
    },
    c.if-content.false,
  );
}

pub returns-in-Err-clause-memory : goal.returns-in-Err-clause-memory
returns-in-Err-clause-memory g c = wanted c.in-Err.error (record {
  end = here g.S.Source.rest c.op.new.arg2;
  ran = record {
    given = _;
    left = c.op.new.arg2;
    starts = begins g.S.Source.rest c.args.mode c.new-source.ensures c.into_source.ensures;
    met = record { shown = _; shows = refl; left = _; met = c.in-Err.ensures; leaves = refl };
    ends = refl;
  };
})
