use Rattle.std.proofs.Common.{rules}
use Rattle.bcder.specs.Texts.{Starts}
use Rattle.bcder.proofs.Checks.{on_err, text_less, text_more, text_none}
use Rattle.bcder.proofs.string.char_set.CharSet.check.Goals as goal

pub returns-in_err-behind-clause-refused : goal.returns-in_err-behind-clause-refused
returns-in_err-behind-clause-refused g c = on_err c.from_residual.result (λ t. text_none c.text.rest.now c.in_err-behind.ensures.refused (c.text.invariant.on t))

pub text-preserved : goal.text-preserved
text-preserved g c =
    let starts : Starts g.Self.CharSet.has g.Self.CharSet.spell c.text.rest.now c.in-Some.field-0-0 c.in-Some.behind.now = search rules in
    record {
      back = λ t. c.text.invariant.back (text_more c.text.rest.now c.in-Some.behind.now c.in-Some.field-0-0 starts t);
      on = λ t. text_less c.text.rest.now c.in-Some.behind.now c.in-Some.field-0-0 g.met.Self.CharSet.some_octet g.met.Self.CharSet.one_start starts (c.text.invariant.on t);
    }
