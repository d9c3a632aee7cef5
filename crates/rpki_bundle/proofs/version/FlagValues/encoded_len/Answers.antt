use Rattle.std.proofs.Common.{sym, subst}
use Rattle.std.specs.Prelude.{IfErr}
use Rattle.rpki_bundle.specs.bcder_primitive.Writing.{CannotWrite}
use Rattle.rpki_bundle.specs.declared.version.Version.{Version}
use Rattle.rpki_bundle.specs.Written.{IsFlag, WritesFlag}
use Rattle.rpki_bundle.proofs.version.FlagValues.encoded_len.Goals as goal

pub returns-in-One-clause-refused : goal.returns-in-One-clause-refused
returns-in-One-clause-refused c =
    subst (λ (v : Version). IfErr c.encoded_len.result (CannotWrite (IsFlag v) (WritesFlag c.args.mode v))) (sym c.in-One.is) c.encoded_len.ensures.refused
