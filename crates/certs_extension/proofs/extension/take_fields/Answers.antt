use Rattle.std.proofs.Common.{refl}
use Rattle.certs_extension.proofs.of_bcder_content.InMode.{begin, next, stop, next_default, stop_default, done}
use Rattle.certs_extension.proofs.of_bcder_content.Unique.{octets_tagged}
use Rattle.certs_extension.proofs.extension.take_fields.Goals as goal

pub returns-in_err-kind : goal.returns-in_err-kind
returns-in_err-kind g c = stop _ begin c.from_residual.ensures c.in_err-kind.ensures.reads

pub returns-in_err-take_opt_bool : goal.returns-in_err-take_opt_bool
returns-in_err-take_opt_bool g c = stop_default _ (next begin c.in_ok-kind.ensures.reads) c.from_residual-in_err-take_opt_bool.ensures c.in_err-take_opt_bool.ensures.reads

pub returns-in_err-octets : goal.returns-in_err-octets
returns-in_err-octets g c =
    let s = next_default _ (next begin c.in_ok-kind.ensures.reads) (λ m. octets_tagged _ _) c.in_ok-take_opt_bool.ensures.reads c.unwrap_or-critical.ensures in
    stop _ s c.from_residual-in_err-octets.ensures c.in_err-octets.ensures.reads

pub returns : goal.returns
returns g c =
    let s = next_default _ (next begin c.in_ok-kind.ensures.reads) (λ m. octets_tagged _ _) c.in_ok-take_opt_bool.ensures.reads c.unwrap_or-critical.ensures in
    done (next s c.in_ok-octets.ensures.reads) refl
