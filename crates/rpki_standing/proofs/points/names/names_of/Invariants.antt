use Rattle.std.proofs.Common.{◌≡◌, ◌++◌, map}
use Rattle.rpki_standing.proofs.points.names.names_of.Given as goal

abbrev pub invariant-loop-file : goal.invariant-loop-file
invariant-loop-file l = map (λ n. n.now) l.names.items ++ map (λ f. f.name) l.left ≡ map (λ f. f.name) l.fn.manifest.files
