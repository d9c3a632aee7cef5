use Rattle.std.proofs.Common.{FitsSigned, rules, w64}
use Rattle.std.proofs.lemmas.Int.{to_z-of_z}
use Rattle.certs_basics.proofs.time.validity.Validity.from_secs.Goals as goal

pub returns-in_err-then-clause-none : goal.returns-in_err-then-clause-none
returns-in_err-then-clause-none c =
    let fits : FitsSigned w64 c.args.seconds = search rules in
    rw c.from_residual.ensures (simp to_z-of_z at c.in_err-then.ensures.none)
