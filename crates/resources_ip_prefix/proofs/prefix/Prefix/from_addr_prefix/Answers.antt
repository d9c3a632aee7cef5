use Rattle.std.proofs.Common.{ℕ, ap, ◌∙◌}
use Rattle.resources_ip_prefix.specs.Address.{bits_of}
use Rattle.resources_ip_prefix.specs.Prefix.{prefix_addr}
use Rattle.resources_ip_prefix.specs.Prefixes.{first_of, prefix_run}
use Rattle.resources_ip_prefix.proofs.WideLemmas.{made_wide}
use Rattle.resources_ip_prefix.proofs.prefix.Prefix.from_addr_prefix.Goals as goal

pub returns-clause-addr : goal.returns-clause-addr
returns-clause-addr c =
    made_wide c.args.prefix c.addr.result (bits_of c.from.result) (bits_of (prefix_addr c.new.result)) c.len.ensures.whole c.addr.ensures.family c.addr.ensures.bits c.from.ensures (c.new.ensures.addr ∙ ap (λ (l : ℕ). first_of l (bits_of c.from.result)) c.len.ensures.value)

pub returns-clause-run : goal.returns-clause-run
returns-clause-run c =
    let addr = made_wide c.args.prefix c.addr.result (bits_of c.from.result) (bits_of (prefix_addr c.new.result)) c.len.ensures.whole c.addr.ensures.family c.addr.ensures.bits c.from.ensures (c.new.ensures.addr ∙ ap (λ (l : ℕ). first_of l (bits_of c.from.result)) c.len.ensures.value) in
    let len = c.new.ensures.len ∙ c.len.ensures.value in
    λ i. prefix_run (addr i) (len i)
