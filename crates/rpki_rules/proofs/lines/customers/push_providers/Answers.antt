use Rattle.std.proofs.Common.{◌++◌, codes, ◌∙◌}
use Rattle.rpki_rules.specs.Lines.{asn_text}
use Rattle.rpki_rules.proofs.Pieces.{one_more}
use Rattle.rpki_rules.proofs.lines.customers.push_providers.Goals as goal

pub loop-provider-preserved : goal.loop-provider-preserved
loop-provider-preserved c = one_more (λ p. codes " " ++ asn_text p.value) c.args.text.now.items _ _ _ c.args.providers.now c.loop-provider.provider-index c.provider-item.result c.loop-provider-test.true c.provider-item.is c.loop-provider.invariant (c.as_bytes.ensures.value ∙ c.in_ok-format.ensures.ok) c.in_ok-extend_from_slice.ensures.items
