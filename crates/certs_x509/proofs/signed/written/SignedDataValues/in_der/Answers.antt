use Rattle.std.proofs.Common.{refl}
use Rattle.certs_x509.proofs.Refused.{can_be_captured, none_captured}
use Rattle.certs_x509.proofs.signed.written.SignedDataValues.in_der.Goals as goal

pub returns-then-not-is_der-clause-refused : goal.returns-then-not-is_der-clause-refused
returns-then-not-is_der-clause-refused c = λ e. let yes = c.is_der.ensures.1 e in let no = c.if-not-is_der.true in absurd cc

pub returns-in-Ok-clause-captured : goal.returns-in-Ok-clause-captured
returns-in-Ok-clause-captured c = record { value = c.args.self.now; same = refl; text_is = c.in-Ok.ensures.captured }

pub returns-in-Memory-clause-refused : goal.returns-in-Memory-clause-refused
returns-in-Memory-clause-refused c = let h = c.in-Err.ensures.memory c.in-Memory.is in can_be_captured c.args.self.now h.1

pub returns-in_default-clause-refused : goal.returns-in_default-clause-refused
returns-in_default-clause-refused c =
    (c.is_der.ensures.0 c.if-not-is_der.false, none_captured c.args.self.now c.in-Err.error c.in-Err.ensures.refused c.in_default.not-Memory)
