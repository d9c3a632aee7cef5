use Rattle.resources_ip.proofs.claims.OverclaimedIpv4ResourcesDisplay.fmt.Goals as goal

pub returns-clause-writes : goal.returns-clause-writes
returns-clause-writes g c = λ plain ok. rw (c.v4.ensures.family, c.v4.ensures.set, c.blocks-2.ensures) at (c.write.ensures.writes plain ok)
