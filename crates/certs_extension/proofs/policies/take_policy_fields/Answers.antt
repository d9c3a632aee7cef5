use Rattle.std.proofs.Common.{refl}
use Rattle.certs_extension.proofs.of_bcder_content.Forests.{rest_gives, rest_lacks}
use Rattle.certs_extension.proofs.of_bcder_content.InMode.{begin, next_means, stop_means, unfit_means, finish, stop_all}
use Rattle.certs_extension.proofs.of_bcder_content.Taking.{weaker}
use Rattle.certs_extension.proofs.of_bcder_content.Unique.{octets_one}
use Rattle.certs_extension.proofs.of_bcder.Read.{oid_one}
use Rattle.certs_extension.proofs.policies.take_policy_fields.Goals as goal

pub returns-in_err-oid : goal.returns-in_err-oid
returns-in_err-oid g c = stop_means _ begin c.from_residual.ensures c.in_err-oid.ensures.reads

pub returns-in_default : goal.returns-in_default
returns-in_default g c = unfit_means begin (λ m. octets_one oid_one) c.in_ok-oid.ensures.reads (λ p h. c.in_default.ensures p h)

pub returns-in_err-skip_all : goal.returns-in_err-skip_all
returns-in_err-skip_all g c = stop_all _ (next_means begin c.in_ok-oid.ensures.reads c.in-Some.ensures) c.from_residual-in_err-skip_all.ensures (weaker _ rest_lacks c.in_err-skip_all.ensures.refused)

pub returns : goal.returns
returns g c = finish (next_means begin c.in_ok-oid.ensures.reads c.in-Some.ensures) (rest_gives c.in_ok-skip_all.ensures.skipped) refl
