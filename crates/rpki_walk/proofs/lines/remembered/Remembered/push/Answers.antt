use Rattle.std.proofs.Common.{refl}
use Rattle.rpki_walk.proofs.lines.remembered.Remembered.push.Goals as goal

pub returns : goal.returns
returns c = record {
  one = _;
  added = c.in_ok-push.ensures.items;
  uri_is = c.in_ok-clone.ensures.cases;
  held_is = refl;
  keys_are = refl;
  from_is = refl;
  to_is = refl;
}
