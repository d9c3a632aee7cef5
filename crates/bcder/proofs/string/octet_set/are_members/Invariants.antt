use Rattle.std.proofs.Common.{length}
use Rattle.std.specs.Prelude.{All}
use Rattle.bcder.proofs.string.octet_set.are_members.Given as goal

abbrev pub invariant-text : goal.invariant-text
invariant-text g l = record {
  back : All g.S.OctetSet.member l.rest → All g.S.OctetSet.member l.octets;
  on : All g.S.OctetSet.member l.octets → All g.S.OctetSet.member l.rest;
}

abbrev pub decreases-text : goal.decreases-text
decreases-text g l = length l.rest
