use Rattle.std.proofs.Common.{◌∙◌}
use Rattle.rpki_rules.specs.Views.{customer_of}
use Rattle.rpki_rules.proofs.Pieces.{customer_whole}
use Rattle.rpki_rules.proofs.lines.customers.push_line.Goals as goal

pub returns : goal.returns
returns c = customer_whole (λ a. a.value) (customer_of c.args.customer.now) c.number-number.result.value c.providers.result.now _ _ _ _ _ c.number-number.ensures c.providers.ensures (c.as_bytes.ensures.value ∙ c.in_ok-format.ensures.ok) c.in_ok-extend_from_slice.ensures.items c.in_ok-push_providers.ensures c.in_ok-push.ensures.items
