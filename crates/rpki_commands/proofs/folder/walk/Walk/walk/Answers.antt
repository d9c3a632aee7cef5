use Rattle.std.proofs.Common.{Some, refl, sym, subst, arith}
use Rattle.rpki_commands.specs.Limits.{IsAtLevel}
use Rattle.rpki_commands.proofs.EntryNames.{level_of_scheme}
use Rattle.rpki_commands.proofs.Walking.{walked_pending, walked_popped}
use Rattle.rpki_commands.proofs.folder.walk.Walk.walk.Goals as goal

pub loop-folder-init : goal.loop-folder-init
loop-folder-init g c = λ walked scheme.
    walked_pending (record { path = c.args.path; uri = c.in_ok-uri.uri; level = 1 }) 0 c.args.self.now _ walked
    (record { above = 0; level_is = refl; few = omega arith; at_level = subst (IsAtLevel 0) (sym c.in_ok-uri.ensures.ok) (level_of_scheme c.args.uri.now scheme) })
    c.in_ok-push.ensures.items refl refl refl refl

pub loop-folder-preserved : goal.loop-folder-preserved
loop-folder-preserved g c = λ walked scheme.
    let left = walked_popped (Some c.in-Some.folder) c.loop-folder.self (record c.loop-folder.self { pending = c.pop.new.self }) (c.loop-folder.invariant walked scheme) c.in-Some.ensures.items refl refl refl refl in
    c.in_ok-list.ensures.walked left.0 left.1
