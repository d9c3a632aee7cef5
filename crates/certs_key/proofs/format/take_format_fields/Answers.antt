use Rattle.std.proofs.Common.{refl}
use Rattle.certs_key.proofs.of_bcder_content.InMode.{next, stop, next_opt, stop_opt, done}
use Rattle.certs_key.proofs.of_bcder_content.Choosing.{stop_by, none_told}
use Rattle.certs_key.proofs.of_bcder_content.Unique.{octets_tagged}
use Rattle.certs_key.proofs.Formats.{started, named, rsa_next, curve_next, none_follows}
use Rattle.certs_key.proofs.format.take_format_fields.Goals as goal

pub returns-in_err-kind : goal.returns-in_err-kind
returns-in_err-kind g c = stop_by _ started c.from_residual.ensures c.in_err-kind.ensures.reads

pub returns-in_err-_null : goal.returns-in_err-_null
returns-in_err-_null g c = stop_opt _ (rsa_next (c.if-equals.ensures.0 refl) c.in_ok-kind.ensures.reads) c.from_residual-in_err-_null.ensures c.in_err-_null.ensures.reads

pub returns-then-equals : goal.returns-then-equals
returns-then-equals g c = done (next_opt _ (rsa_next (c.if-equals.ensures.0 refl) c.in_ok-kind.ensures.reads) (λ m. octets_tagged _ _) c.in_ok-_null.ensures.reads) refl

pub returns-in_err-_curve : goal.returns-in_err-_curve
returns-in_err-_curve g c = stop _ (curve_next (c.if-equals-2.ensures.0 refl) c.in_ok-kind.ensures.reads) c.from_residual-in_err-_curve.ensures c.in_err-_curve.ensures.reads

pub returns-then-equals-2 : goal.returns-then-equals-2
returns-then-equals-2 g c = done (next (curve_next (c.if-equals-2.ensures.0 refl) c.in_ok-kind.ensures.reads) c.in_ok-_curve.ensures.reads) refl

pub returns : goal.returns
returns g c = none_told (named c.in_ok-kind.ensures.reads) (none_follows _ (λ e. let t = c.if-equals.ensures.1 e in absurd cc) (λ e. let t = c.if-equals-2.ensures.1 e in absurd cc))
