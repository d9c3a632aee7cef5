use Rattle.std.proofs.Common.{subst}
use Rattle.objects_rta_valid.specs.certs_basics.Verdicts.{Verdicts}
use Rattle.objects_rta_anchors.specs.Anchors.{IsBelow, IsOpenEnd}
use Rattle.objects_rta_anchors.proofs.validation.Validation.supply_ca.Goals as goal

pub anchor_below-requires-clause-before : goal.anchor_below-requires-clause-before
anchor_below-requires-clause-before g c = λ signer lt o.
    c.in-Some.ensures.before signer lt (subst (λ (says : Verdicts). IsOpenEnd (IsBelow says c.args.ca.now.holder.cert) c.args.self.now signer) c.first_open.ensures.same o)
