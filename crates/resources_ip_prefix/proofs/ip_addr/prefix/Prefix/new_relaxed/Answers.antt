use Rattle.std.proofs.Common.{ℕ, ap, ◌∙◌}
use Rattle.resources_ip_prefix.proofs.AddrSpans.{unmasked, is_cleared}
use Rattle.resources_ip_prefix.specs.AddrPrefixes.{PrefixValue, prefix_around}
use Rattle.resources_ip_prefix.specs.Held.{family_in}
use Rattle.resources_ip_prefix.proofs.ip_addr.prefix.Prefix.new_relaxed.Goals as goal

pub invariant_of-result : goal.invariant_of-result
invariant_of-result c =
    let e = unmasked c.parts-kind.result.1 _ c.args.len _ (family_in c.parts-kind.result.0) c.host_mask.ensures c.width-2.ensures c.parts-kind.ensures.within in
    let whole = is_cleared (family_in c.parts-kind.result.0) c.parts-kind.result.1 c.args.len (rw (← c.width.ensures) c.if-len-width.false) c.parts-kind.ensures.within in
    rw e whole

pub returns : goal.returns
returns c =
    let e = unmasked c.parts-kind.result.1 _ c.args.len _ (family_in c.parts-kind.result.0) c.host_mask.ensures c.width-2.ensures c.parts-kind.ensures.within in (
      invariant_of-result c,
      ap (λ (n : ℕ). let p : PrefixValue = record { family = family_in c.parts-kind.result.0; first = n; len = c.args.len } in p) e
          ∙ λ i. prefix_around (c.parts-kind.ensures.family i) (c.parts-kind.ensures.bits i) c.args.len,
    )
