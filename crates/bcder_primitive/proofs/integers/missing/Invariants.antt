use Rattle.std.proofs.Common.{◌≡◌, ℕ, ◌+◌, ◌^◌, drop}
use Rattle.bcder_primitive.specs.bcder_tree.Integers.{number_behind, number_of}
use Rattle.bcder_primitive.proofs.integers.missing.Given as goal

-- What is left, read after the number so far, completes it.
abbrev pub invariant-loop-octet : goal.invariant-loop-octet
invariant-loop-octet l = (n : ℕ) × (n + l.missing + 1 ≡ 256 ^ l.octet-index) × (number_of l.octets ≡ number_behind n (drop l.octet-index l.octets))
