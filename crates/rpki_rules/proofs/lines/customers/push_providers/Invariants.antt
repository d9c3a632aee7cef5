use Rattle.std.proofs.Common.{◌≡◌, ◌++◌, take}
use Rattle.std.specs.Prelude.{flat_map, codes}
use Rattle.rpki_rules.specs.Lines.{asn_text}
use Rattle.rpki_rules.proofs.lines.customers.push_providers.Given as goal

abbrev pub invariant-loop-provider : goal.invariant-loop-provider
invariant-loop-provider l = l.text.items ≡ l.initial.text.items ++ flat_map (λ p. codes " " ++ asn_text p.value) (take l.provider-index l.providers)
