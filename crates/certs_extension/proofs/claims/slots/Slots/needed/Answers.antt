use Rattle.std.proofs.Common.{sym, ◌∙◌}
use Rattle.certs_extension.proofs.claims.slots.Slots.needed.Goals as goal

pub returns-in_default-key_usage-clause-refused : goal.returns-in_default-key_usage-clause-refused
returns-in_default-key_usage-clause-refused c = (c.in_ok-overclaim.overclaim, c.in_ok-overclaim.ensures.ok, (λ none. let e = sym none ∙ c.in-Some.is in absurd cc), c.in_default-key_usage.is)
