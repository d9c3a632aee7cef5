use Rattle.std.proofs.Common.{◌≡◌, ◌+◌, ◌*◌, ◌%◌, ap, ◌∙◌, arith}
use Rattle.bcder.specs.Subidentifiers.{base128}
use Rattle.bcder.proofs.Numbers.{base128_push}
use Rattle.bcder.proofs.oid.component.last_digit.Goals as goal

pub returns-in-Some-clause-value : goal.returns-in-Some-clause-value
returns-in-Some-clause-value c =
    let e : base128 c.args.octets.now ≡ base128 c.in-Some.front.now * 128 + c.in-Some.last.now % 128 = ap base128 c.in-Some.ensures.cases.0 ∙ base128_push 0 c.in-Some.front.now c.in-Some.last.now in
    omega (arith, e)
