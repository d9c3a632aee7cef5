use Rattle.rpki_rules.specs.Views.{provision_of}
use Rattle.rpki_standing.proofs.Growth.{Added}
use Rattle.rpki_standing.proofs.payloads.provisions.add_providers.Given as goal

abbrev pub invariant-loop-provider : goal.invariant-loop-provider
invariant-loop-provider l = Added provision_of (λ p. record { customer = l.content.customer; provider = p }) l.fn.out.items l.out.items l.content.providers l.provider-iterator
