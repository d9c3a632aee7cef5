use Rattle.std.proofs.Common.{ℕ, ◌%◌, ap, sym, ◌∙◌, arith}
use Rattle.resources_ip_prefix.proofs.AddrSpans.{masked}
use Rattle.resources_ip_prefix.specs.AddrPrefixes.{width, span, family_of}
use Rattle.resources_ip_prefix.specs.Held.{family_in}
use Rattle.resources_ip_prefix.proofs.ip_addr.prefix.Prefix.new.Goals as goal

pub returns-then-first-host_mask-ne0 : goal.returns-then-first-host_mask-ne0
returns-then-first-host_mask-ne0 c =
    let e = masked c.parts-kind.result.1 _ (width (family_of c.args.addr)) c.args.len _ c.host_mask.ensures (c.width-2.ensures ∙ ap width c.parts-kind.ensures.family) in (
      grind (arith, c.width.ensures, c.parts-kind.ensures.family),
      λ zero. c.if-first-host_mask-ne0.true (e ∙ ap (λ (n : ℕ). n % span (family_of c.args.addr) c.args.len) c.parts-kind.ensures.bits ∙ zero),
    )

pub invariant_of-result : goal.invariant_of-result
invariant_of-result c =
    let e = masked c.parts-kind.result.1 _ (width (family_in c.parts-kind.result.0)) c.args.len _ c.host_mask.ensures c.width-2.ensures in
    record {
      fits = rw (← c.width.ensures) c.if-len-width.false;
      within = c.parts-kind.ensures.within;
      no_host = sym e ∙ c.if-first-host_mask-ne0.false;
    }

pub returns : goal.returns
returns c = (
  invariant_of-result c,
  λ i. record { family = c.parts-kind.ensures.family i; first = c.parts-kind.ensures.bits i; len = c.args.len },
)
