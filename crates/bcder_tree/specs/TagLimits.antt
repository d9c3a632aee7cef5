-- The tags that the codec reads and writes.
use Rattle.std.specs.Prelude.{◌<◌, ◌≤◌}
use Rattle.bcder_tree.specs.Tags.{TagValue}

-- One of the four classes, and a number that three octets of seven bits spell (X.690 8.1.2.4).
pub record IsToldTag (t : TagValue) : Type 0 where
  pub class : t.class < 4
  pub number : t.number ≤ 2097151
