use Rattle.rpki_validator.proofs.Pieces.{takes_more}
use Rattle.rpki_validator.proofs.streams.write_all.Goals as goal
use Rattle.std.proofs.Common.{◌++◌, take, arith}
use Rattle.std.proofs.KnownBytes.{Appends-trans}
use Rattle.std.proofs.lemmas.Grind.{common_steps}

pub loop-rest-preserved : goal.loop-rest-preserved
loop-rest-preserved g c =
    let before = c.loop-rest.invariant in
    let rest = c.loop-rest.rest.now in
    let count = c.in-Ok.count in
    record {
      taken = before.taken ++ take count rest;
      whole = takes_more _ _ rest count before.whole;
      appended = Appends-trans _ _ _ _ _ before.appended c.in-Ok.ensures.bytes;
      none_failed = grind (arith, common_steps);
    }
