use Rattle.certs_crl.proofs.Stored.{passed_all, passed_found, passed_more, passed_none}
use Rattle.certs_crl.proofs.store.first_under.Goals as goal

pub loop-pair-init : goal.loop-pair-init
loop-pair-init c = passed_none _ _

pub returns-then-is_under : goal.returns-then-is_under
returns-then-is_under c = passed_found c.in-Some.ensures.cases.0 (c.is_under.ensures.0 c.if-is_under.true) c.loop-pair.invariant

pub loop-pair-preserved : goal.loop-pair-preserved
loop-pair-preserved c =
    passed_more c.in-Some.ensures.cases.0 (λ p. let yes = c.is_under.ensures.1 p in let no = c.if-is_under.false in absurd cc) c.loop-pair.invariant

pub returns : goal.returns
returns c = passed_all c.in_default.ensures.cases c.loop-pair.invariant
