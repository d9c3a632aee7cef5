use Rattle.std.proofs.Common.{refl, ap}
use Rattle.bcder_content.specs.bcder_source.Views.{Reading}
use Rattle.bcder_content.specs.Captures.{rest_of}
use Rattle.bcder_content.proofs.Decoding.{begins}
use Rattle.bcder_content.proofs.Parts.{front_read}
use Rattle.bcder_content.proofs.captured.read_front.Goals as goal

pub returns-in-Err-clause-refused : goal.returns-in-Err-clause-refused
returns-in-Err-clause-refused g c = record {
  end = _;
  ran = record {
    given = _;
    left = c.op.new.arg2;
    starts = begins rest_of c.args.mode c.new-source.ensures (ap (λ (r : Reading). r.rest) c.new.ensures);
    met = record { shown = _; shows = refl; left = _; met = c.in-Err.ensures; leaves = refl };
    ends = refl;
  };
}

pub returns-clause-read : goal.returns-clause-read
returns-clause-read g c =
    let read = c.requires.reads.each _ _ _ c.in-Ok.ensures in
    front_read _ c.op.new.arg2 _
    (begins rest_of c.args.mode c.new-source.ensures (ap (λ (r : Reading). r.rest) c.new.ensures))
    (record { shown = _; shows = refl; left = _; met = c.in-Ok.ensures; leaves = refl })
    read.0 read.1 c.len.ensures
