use Rattle.std.proofs.Common.{List, ℕ, ◌++◌, rules}
use Rattle.std.specs.Fmt.{HasWritten}
use Rattle.std.specs.Prelude.{encode_utf8}
use Rattle.std.proofs.Output.{has_written_append}
use Rattle.bcder.proofs.Characters.{one_more}
use Rattle.bcder.proofs.string.string.RestrictedStringDisplay.fmt.Goals as goal

pub loop-character-preserved : goal.loop-character-preserved
loop-character-preserved g c =
    let before = c.loop-character.invariant in
    let text : List ℕ = encode_utf8 c.in-Some.character in (
      before.0 ++ text,
      one_more before.0 _ c.loop-character.character-iterator c.next.new.self c.in-Some.character before.1 c.in-Some.ensures.steps,
      λ plain. has_written_append _ _ _ _ _ _ (before.2 plain) (let one : HasWritten {W = g.row.W.Denot} g.W.Write.write_str_gives c.loop-character.f text c.write.new.self = search rules in one),
    )
