use Rattle.resources_ip.proofs.claims.OverclaimedIpv6ResourcesDisplay.fmt.Goals as goal

pub returns-clause-writes : goal.returns-clause-writes
returns-clause-writes g c = λ plain ok. rw (c.v6.ensures.family, c.v6.ensures.set, c.blocks-2.ensures) at (c.write.ensures.writes plain ok)
