use Rattle.bcder_primitive.proofs.Pieces.{took_front, takes_more}
use Rattle.bcder_primitive.proofs.written.write.write_octets.Goals as goal
use Rattle.std.proofs.Common.{◌++◌, take}
use Rattle.std.proofs.KnownBytes.{Appends-trans}

pub loop-rest-preserved : goal.loop-rest-preserved
loop-rest-preserved g c =
    let before = c.loop-rest.invariant in
    let rest = c.loop-rest.rest.now in
    let front = took_front _ _ rest c.write.result c.in_ok-count.count c.write.ensures.bound c.write.ensures.bytes c.in_ok-count.ensures.took in
    record {
      taken = before.taken ++ take c.in_ok-count.count rest;
      whole = takes_more _ _ rest c.in_ok-count.count before.whole;
      appended = Appends-trans _ _ _ _ _ before.appended front.1;
    }
