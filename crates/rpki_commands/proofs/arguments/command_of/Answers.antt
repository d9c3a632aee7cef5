use Rattle.std.proofs.Common.{string_bytes, arith}
use Rattle.rpki_commands.proofs.Words.{two_words, three_words, none_by_length, none_at_two, none_at_three}
use Rattle.rpki_commands.proofs.arguments.command_of.Goals as goal
use Rattle.rpki_commands.proofs.arguments.command_of.Goals.{in_default-via-then-arguments-lt2, in_default-via-in-len2+else-eq, in_default-via-in-len3+else-eq-2, in_default-via-else-arguments-lt2+else-arguments-lt3+else-arguments-lt4}

pub returns-in-len2 : goal.returns-in-len2
returns-in-len2 c =
    two_words string_bytes c.args.arguments.now c.name-item.result c.as_str.result.now _ c.in-len2.len_at_least c.in-len2.len_below c.name-item.is c.as_str.ensures.value c.if-eq.ensures

pub returns-in-len3 : goal.returns-in-len3
returns-in-len3 c =
    three_words string_bytes c.args.arguments.now c.name-item-then-arguments-lt4.result c.folder-item.result c.as_str-then-arguments-lt4.result.now c.as_str-in-len3.result.now _ c.in-len3.len_at_least c.in-len3.len_below c.name-item-then-arguments-lt4.is c.folder-item.is c.as_str-then-arguments-lt4.ensures.value c.as_str-in-len3.ensures.value c.if-eq-2.ensures

pub returns-in_default : goal.returns-in_default
returns-in_default c =
    elim c.in_default.branch [
      | in_default-via-then-arguments-lt2 w ↦ none_by_length string_bytes c.args.arguments.now (λ h. grind (arith, h)) (λ h. grind (arith, h))
      | in_default-via-in-len2+else-eq w ↦ none_at_two string_bytes c.args.arguments.now w.name-item.result w.as_str.result.now w.in-len2.len_below w.name-item.is w.as_str.ensures.value w.if-eq.ensures
      | in_default-via-in-len3+else-eq-2 w ↦ none_at_three string_bytes c.args.arguments.now w.name-item-then-arguments-lt4.result w.as_str-then-arguments-lt4.result.now w.in-len3.len_at_least w.name-item-then-arguments-lt4.is w.as_str-then-arguments-lt4.ensures.value w.if-eq-2.ensures
      | in_default-via-else-arguments-lt2+else-arguments-lt3+else-arguments-lt4 w ↦ none_by_length string_bytes c.args.arguments.now (λ h. grind (arith, h)) (λ h. grind (arith, h))
    ]
