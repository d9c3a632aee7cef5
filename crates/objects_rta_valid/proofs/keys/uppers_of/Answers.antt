use Rattle.objects_rta_valid.specs.Vouched.{upper_keys}
use Rattle.objects_rta_valid.proofs.Using.{upper_end, upper_step}
use Rattle.objects_rta_valid.proofs.keys.uppers_of.Goals as goal

pub loop-pair-preserved : goal.loop-pair-preserved
loop-pair-preserved c =
    rw c.in_ok-push_upper.ensures (upper_step c.args.certs.now c.loop-pair.rest.now c.in-Some.others.now c.in-Some.pair.now c.loop-pair.keys.items _ c.in-Some.ensures.cases.0 c.loop-pair.invariant)

pub returns : goal.returns
returns c = upper_end c.args.certs.now c.loop-pair.rest.now c.loop-pair.keys.items (upper_keys c.args.certs.now c.args.pairs.now) c.in_default.ensures.cases c.loop-pair.invariant
