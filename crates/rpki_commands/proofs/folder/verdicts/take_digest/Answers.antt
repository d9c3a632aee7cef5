use Rattle.std.proofs.Common.{◌≡◌, Ok, length, sym, ap, ◌∙◌, subst, arith, length-append}
use Rattle.rpki_commands.proofs.of_bcder_tree.Unique.{by_length}
use Rattle.hex.specs.Hex.{decode_sized}
use Rattle.rpki_commands.specs.Verdicts.{IsHex}
use Rattle.rpki_commands.proofs.Hexes.{decoded_from_hex, hex_from_decoded, hex_length}
use Rattle.rpki_commands.proofs.Splits.{split_whole}
use Rattle.rpki_commands.proofs.folder.verdicts.take_digest.Goals as goal

pub returns-in_default-clause-none : goal.returns-in_default-clause-none
returns-in_default-clause-none c = λ digest rest i.
    absurd (omega (arith, hex_length i.digits digest i.digest_is, ap length i.whole, length-append i.digits rest, c.in_default.ensures.cases))

pub returns-in-Ok-clause-found : goal.returns-in-Ok-clause-found
returns-in-Ok-clause-found c = record {
  digits = c.in-Some.digits.now;
  whole = split_whole 64 c.args.text.now c.in-Some.digits.now c.in-Some.rest.now c.in-Some.ensures.cases.1 c.in-Some.ensures.cases.2;
  digest_is = hex_from_decoded c.in-Some.digits.now c.in-Ok.digest (sym c.in-Ok.ensures);
}

pub returns-in-Err-clause-none : goal.returns-in-Err-clause-none
returns-in-Err-clause-none c = λ digest rest i.
    let front = c.in-Some.ensures.cases in
    let size : length i.digits ≡ length c.in-Some.digits.now = hex_length i.digits digest i.digest_is ∙ sym front.3 in
    let whole = split_whole 64 c.args.text.now c.in-Some.digits.now c.in-Some.rest.now front.1 front.2 in
    let same = by_length i.digits c.in-Some.digits.now rest c.in-Some.rest.now size (sym i.whole ∙ whole) in
    let read : decode_sized c.in-Some.digits.now 32 ≡ Ok digest = decoded_from_hex c.in-Some.digits.now digest (subst (λ s. IsHex s digest) same.front i.digest_is) in
    cc (c.in-Err.ensures ∙ read)
