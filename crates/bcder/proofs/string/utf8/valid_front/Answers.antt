use Rattle.std.proofs.Common.{ℕ, subst, sym}
use Rattle.std.specs.Str.{IsValidUpTo}
use Rattle.bcder.proofs.Unicode.{longest_valid}
use Rattle.bcder.proofs.string.utf8.valid_front.Goals as goal

pub returns-in-Ok-from_utf8-clause-longest : goal.returns-in-Ok-from_utf8-clause-longest
returns-in-Ok-from_utf8-clause-longest c =
    let valid : IsValidUpTo c.args.octets.now c.valid_up_to.result = subst (λ (n : ℕ). IsValidUpTo c.args.octets.now n) (sym c.valid_up_to.ensures) c.in-Err.ensures.cases.1 in
    longest_valid c.args.octets.now c.in-Ok-from_utf8.text.now c.valid_up_to.result valid c.in-Ok-from_utf8.ensures.cases.0
