use Rattle.std.proofs.Common.{◌≡◌, take}
use Rattle.rpki_rules.proofs.witness.Path.longer.Given as goal

abbrev pub invariant-loop-uri : goal.invariant-loop-uri
invariant-loop-uri l = l.chain.items ≡ take l.uri-index l.uri-items
