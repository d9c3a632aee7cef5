use Rattle.rpki_rules.specs.Kinds.{Ipv4}
use Rattle.rpki_steps.proofs.AnchorLemmas.{is_anchor, no_anchor}
use Rattle.rpki_steps.proofs.anchor.locator.lead_to.Goals as goal

pub new-authority-requires : goal.new-authority-requires
new-authority-requires g c =
    let r = c.in-Ok.anchor in
    let a = rw c.in-Ok.is at c.in_ok-anchor.ensures.found in
    let law = c.addresses_are_whole.ensures in
    law.own r.holder.cert.tbs.v4 r.holder.v4 (law.listed c.args.object.now.octets r.holder.cert a.reads) (a.holds Ipv4)

pub returns-in-Ok-clause-judged : goal.returns-in-Ok-clause-judged
returns-in-Ok-clause-judged g c =
    λ h. is_anchor _ _ _ c.in_ok-name.name.value _ _ h (record { uri = c.in_ok-uri.uri; authority = c.new-authority.result }) c.in-Ok.anchor c.in_ok-uri.ensures.cases c.new-authority.ensures c.in_ok-name.ensures (rw (c.in-Ok.is, c.key_info-key.ensures) at c.in_ok-anchor.ensures.found)

pub returns-in-Err-clause-judged : goal.returns-in-Err-clause-judged
returns-in-Err-clause-judged g c =
    λ h. no_anchor _ _ _ c.in_ok-name.name.value _ _ h c.in-Err.reason (rw (c.in-Err.is, c.key_info-key.ensures) at c.in_ok-anchor.ensures.found)
