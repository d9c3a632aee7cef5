use Rattle.std.proofs.Common.{◌≡◌, ◌^◌, ◌<◌, drop}
use Rattle.bcder_primitive.specs.bcder_tree.Integers.{number_behind, number_of}
use Rattle.bcder_primitive.proofs.integers.number.Given as goal

-- What is left, read after the number so far, completes it.
abbrev pub invariant-loop-octet : goal.invariant-loop-octet
invariant-loop-octet l = record {
  small : l.number < 256 ^ l.octet-index;
  whole : number_of l.octets ≡ number_behind l.number (drop l.octet-index l.octets);
}
