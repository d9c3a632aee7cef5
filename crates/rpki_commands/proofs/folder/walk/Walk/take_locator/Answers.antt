use Rattle.std.proofs.Common.{refl, sym, subst, ◌∙◌}
use Rattle.rpki_commands.specs.Limits.{IsEntryName}
use Rattle.rpki_commands.proofs.Walking.{not_full, walked_locator}
use Rattle.rpki_commands.proofs.folder.walk.Walk.take_locator.Goals as goal

pub returns-in_ok-push : goal.returns-in_ok-push
returns-in_ok-push g c = λ walked name.
    let read = c.in_ok-text.ensures in
    let kept = read.kept (not_full c.is_full.result c.octets_of.new.self.octets_left c.if-not-is_full.true c.is_full.ensures) in
    walked_locator (record { name = c.in_ok-name.name; text = c.in_ok-text.text }) c.args.self.now c.octets_of.new.self _ walked (subst IsEntryName (sym (c.in_ok-name.ensures ∙ c.as_bytes.ensures.value)) name) read.pending kept read.entries read.counted
    refl refl c.in_ok-push.ensures.items refl refl
