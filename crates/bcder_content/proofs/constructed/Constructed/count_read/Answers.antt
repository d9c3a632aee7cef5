use Rattle.std.proofs.Common.{refl}
use Rattle.bcder_content.specs.Here.{here}
use Rattle.bcder_content.proofs.Capturing.{starts, reads_some, slice_long}
use Rattle.bcder_content.proofs.constructed.Constructed.count_read.Goals as goal

pub returns-in-Ok-clause-read : goal.returns-in-Ok-clause-read
returns-in-Ok-clause-read g c =
    let read = c.requires.reads.each _ _ _ c.in-Ok.ensures in
    reads_some _ c.op.new.arg2 _ _
    (starts (here g.S.Source.rest c.args.self.now) c.requires.sound c.set_limit.ensures c.new-source.ensures c.new.ensures c.slice-octets.ensures.slice c.requires.all)
    (record { shown = _; shows = refl; left = _; met = c.in-Ok.ensures; leaves = refl })
    read.0 read.1 (slice_long _ c.slice-octets.ensures.slice c.requires.all) c.len.ensures

pub returns-in-Err-clause-refused : goal.returns-in-Err-clause-refused
returns-in-Err-clause-refused g c = record {
  end = _;
  ran = record {
    given = _;
    left = c.op.new.arg2;
    starts = starts (here g.S.Source.rest c.args.self.now) c.requires.sound c.set_limit.ensures c.new-source.ensures c.new.ensures c.slice-octets.ensures.slice c.requires.all;
    met = record { shown = _; shows = refl; left = _; met = c.in-Err.ensures; leaves = refl };
    ends = refl;
  };
}
