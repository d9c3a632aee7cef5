use Rattle.std.proofs.Common.{◌≡◌, ◌-◌, ◌∙◌, true, false, refl, sym, arith, eq-eqb}
use Rattle.resources_ip_block.proofs.PrefixLemmas.{tried}
use Rattle.resources_ip_prefix.specs.Address.{bits_of}
use Rattle.resources_ip_block.specs.Range.{run_of_range}
use Rattle.resources_ip_block.proofs.range.AddressRange.into_prefix.Goals as goal
use Rattle.resources_ip_block.proofs.range.AddressRange.into_prefix.Goals.{else-eq-via-then-eq+else-eq-2, else-eq-via-else-eq}

pub returns-else-eq : goal.returns-else-eq
returns-else-eq c = (
  refl,
  λ addr len short clear same.
      let own = tried (run_of_range c.args.self) (c.to_bits.result - c.to_bits-2.result) addr len (omega (arith, c.to_bits.ensures, c.to_bits-2.ensures, c.min-min.ensures.value, c.max-max.ensures.value)) short clear same in
      elim c.else-eq.branch [
        | else-eq-via-then-eq+else-eq-2 w ↦
            let e : bits_of w.max.result ≡ bits_of c.max-max.result = w.max.ensures ∙ rw (c.new-prefix.ensures.addr, c.new-prefix.ensures.len, c.min-min.ensures.value, c.max-max.ensures.value) own.max in
            let wrong : false ≡ true = sym w.if-eq-2.false ∙ w.eq-then-eq.ensures ∙ eq-eqb _ _ e in cc
        | else-eq-via-else-eq w ↦
            let e : bits_of c.min.result ≡ bits_of c.min-min.result = c.min.ensures ∙ c.new-prefix.ensures.addr ∙ rw c.min-min.ensures.value own.min in
            let wrong : false ≡ true = sym w.if-eq.false ∙ c.eq.ensures ∙ eq-eqb _ _ e in cc
      ],
)
