use Rattle.std.proofs.Common.{length}
use Rattle.bcder.specs.Texts.{IsText}
use Rattle.bcder.proofs.string.char_set.CharSet.check.Given as goal

abbrev pub invariant-text : goal.invariant-text
invariant-text g l = record {
  back : IsText g.Self.CharSet.has g.Self.CharSet.spell l.rest → IsText g.Self.CharSet.has g.Self.CharSet.spell l.octets;
  on : IsText g.Self.CharSet.has g.Self.CharSet.spell l.octets → IsText g.Self.CharSet.has g.Self.CharSet.spell l.rest;
}

abbrev pub decreases-text : goal.decreases-text
decreases-text g l = length l.rest
