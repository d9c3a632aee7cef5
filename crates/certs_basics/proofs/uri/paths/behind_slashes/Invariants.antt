use Rattle.std.proofs.Common.{◌≡◌, ◌-◌}
use Rattle.certs_basics.specs.Paths.{behind_slashes as behind}
use Rattle.certs_basics.proofs.uri.paths.behind_slashes.Given as goal

abbrev pub invariant-loop : goal.invariant-loop
invariant-loop l = behind (l.count - l.counter) l.rest ≡ behind l.count l.text
