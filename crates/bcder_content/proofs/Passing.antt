-- A refusal that isn't lack of memory, passed on by `?`.
use Rattle.std.proofs.Common.{◌≡◌, ◌≢◌, Result, Ok, Err, IsErr, IsErrAnd, IfErr, sym, ◌∙◌}
use Rattle.bcder_content.specs.bcder_source.declared.error.DecodeError.{DecodeError}
use Rattle.bcder_content.specs.bcder_source.declared.error.DecodeError.TheVariants.{Memory}

pub no_memory_passed : {D E : Type 0} (r : Result D (DecodeError E)) (e : DecodeError E) → IsErr r × IsErrAnd r (λ x. x ≡ e) → e ≢ Memory → IfErr r (λ x. x ≢ Memory)
no_memory_passed (Ok x) e a other = tt
no_memory_passed (Err x) e a other = λ same. other (sym a.1 ∙ same)
