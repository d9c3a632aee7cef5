use Rattle.std.proofs.Common.{◌≡◌, FitsSigned, ap, arith, rules, unsigned_abs, w64}
use Rattle.std.proofs.lemmas.Int.{to_z-of_z}
use Rattle.certs_basics.proofs.Calendar.{seconds_below}
use Rattle.certs_basics.proofs.time.time.Time.moved.Goals as goal

pub returns-then-then-ge-TIME_END-clause-none : goal.returns-then-then-ge-TIME_END-clause-none
returns-then-then-ge-TIME_END-clause-none c = λ then later number.
    let below = seconds_below number.civil number.real in
    let fits : FitsSigned w64 c.args.seconds = search rules in
    let told = simp to_z-of_z at c.in_ok-then.ensures in
    let same : c.in_ok-then.then ≡ then = cc (told.1, ap unsigned_abs later, c.self.view_is) in
    omega (arith, below, same, number.seconds_are)
