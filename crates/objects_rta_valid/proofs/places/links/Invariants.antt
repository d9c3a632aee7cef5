use Rattle.std.proofs.Common.{◌≡◌, None, drop, length, replicate}
use Rattle.std.specs.List.{flat_map}
use Rattle.objects_rta_valid.specs.Places.{linked, pairs, pairs_of}
use Rattle.objects_rta_valid.proofs.places.links.Given as goal

abbrev pub invariant-loop-signer : goal.invariant-loop-signer
invariant-loop-signer l = record {
  table : linked l.links.items (flat_map pairs_of (drop l.signer l.paths.paths)) ≡ linked (replicate l.paths.count None) (pairs l.paths.paths);
  long : length l.links.items ≡ l.paths.count;
}
