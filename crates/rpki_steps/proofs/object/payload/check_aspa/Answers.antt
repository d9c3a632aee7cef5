use Rattle.rpki_steps.proofs.PayloadFiles.{customer_fails, customer_held}
use Rattle.rpki_steps.proofs.object.payload.check_aspa.Goals as goal

pub returns-then-contains_asn-clause-told : goal.returns-then-contains_asn-clause-told
returns-then-contains_asn-clause-told c = λ w above ca p o kept.
    customer_held w above ca p o c.args.held.now kept c.args.content.now (rw (c.asn.ensures, c.customer_as.ensures) at (c.contains_asn.ensures.0 c.if-contains_asn.true))

pub returns-else-contains_asn-clause-told : goal.returns-else-contains_asn-clause-told
returns-else-contains_asn-clause-told c = λ w above ca p o kept.
    rw c.customer_as-else-contains_asn.ensures (customer_fails w above ca p o c.args.held.now kept c.args.content.now (λ h. let t = (rw (c.asn.ensures, c.customer_as.ensures) at c.contains_asn.ensures).1 h in let f = c.if-contains_asn.false in absurd cc))
