use Rattle.std.proofs.Common.{refl}
use Rattle.rpki_bundle.proofs.bundle.of_parts.Goals as goal

pub returns-then-not-is_lawful-clause-refused : goal.returns-then-not-is_lawful-clause-refused
returns-then-not-is_lawful-clause-refused c = (refl, λ octets t. let no = c.if-not-is_lawful.ensures.1 (octets, t) in absurd cc)

pub returns-clause-spelled : goal.returns-clause-spelled
returns-clause-spelled c = c.if-not-is_lawful.ensures.0 refl
