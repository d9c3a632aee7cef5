use Rattle.rpki_standing.specs.objects_payload.Addresses.{roa_address}
use Rattle.rpki_steps.proofs.PayloadFiles.{roa_held, v4_fails, v6_fails}
use Rattle.rpki_steps.proofs.object.payload.check_roa.Goals as goal

pub returns-in-Some-clause-told : goal.returns-in-Some-clause-told
returns-in-Some-clause-told c = λ w above ca p o kept.
    v4_fails w above ca p o c.args.held.now kept c.args.content.now (roa_address c.in-Some.address) (rw (c.in-Some.is, c.v4_addrs.ensures.value, c.ipv4.ensures) at c.first_unheld.ensures)

pub returns-in-Some-first_unheld-clause-told : goal.returns-in-Some-first_unheld-clause-told
returns-in-Some-first_unheld-clause-told c = λ w above ca p o kept.
    v6_fails w above ca p o c.args.held.now kept c.args.content.now (roa_address c.in-Some-first_unheld.address) (rw (c.in_default.is, c.v4_addrs.ensures.value, c.ipv4.ensures) at c.first_unheld.ensures)
    (rw (c.in-Some-first_unheld.is, c.v6_addrs.ensures.value, c.ipv6.ensures) at c.first_unheld-2.ensures)

pub returns-clause-told : goal.returns-clause-told
returns-clause-told c = λ w above ca p o kept.
    roa_held w above ca p o c.args.held.now kept c.args.content.now (rw (c.in_default.is, c.v4_addrs.ensures.value, c.ipv4.ensures) at c.first_unheld.ensures)
    (rw (c.in_default-first_unheld.is, c.v6_addrs.ensures.value, c.ipv6.ensures) at c.first_unheld-2.ensures)
