use Rattle.std.proofs.Common.{refl, sym, subst}
use Rattle.rpki_commands.specs.Limits.{IsFileUri}
use Rattle.rpki_commands.proofs.Walking.{not_full, walked_object}
use Rattle.rpki_commands.proofs.folder.walk.Walk.take_object.Goals as goal

pub returns-in_ok-push-clause-walked : goal.returns-in_ok-push-clause-walked
returns-in_ok-push-clause-walked g c = λ walked uri.
    let read = c.in_ok-octets.ensures in
    let kept = read.kept (not_full c.is_full.result c.octets_of.new.self.octets_left c.if-not-is_full.true c.is_full.ensures) in
    walked_object (record { uri = c.in_ok-uri.uri; octets = c.in_ok-octets.octets }) c.args.self.now c.octets_of.new.self _ walked (subst IsFileUri (sym c.in_ok-uri.ensures) uri) read.pending kept read.entries read.counted
    refl refl c.in_ok-push.ensures.items refl refl
