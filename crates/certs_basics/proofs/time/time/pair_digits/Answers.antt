use Rattle.std.proofs.Common.{refl, arith, rules, length-set, ◌∙◌}
use Rattle.certs_basics.proofs.Moments.{pair_text_from, digits_written, digits_more}
use Rattle.certs_basics.proofs.time.time.pair_digits.Goals as goal

pub loop-i-preserved : goal.loop-i-preserved
loop-i-preserved c =
    let before = c.loop-i.invariant in
    record {
      count = length-set _ _ _ ∙ length-set _ _ _ ∙ before.count;
      last = digits_written _ c.loop-i.i _ _ 14 (omega arith) (omega arith) ∙ before.last;
      each = digits_more _ _ _ _ _ before.count c.loop-i-test.true refl refl before.each;
    }

pub returns : goal.returns
returns c =
    let filled = c.loop-i.invariant in
    pair_text_from _ _ (search rules) filled.count filled.last (λ k h. filled.each k (omega arith))
