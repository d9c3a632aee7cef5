use Rattle.std.proofs.Common.{refl, sym, arith}
use Rattle.resources_ip_prefix.proofs.ReadLemmas.{longest}
use Rattle.resources_ip_prefix.proofs.text.length_of.Goals as goal

pub returns-then-len-max_addr_len-clause-read : goal.returns-then-len-max_addr_len-clause-read
returns-then-len-max_addr_len-clause-read c =
    let number = c.in-Ok.ensures.value in
    (record { numeral = number.0.0.0; value = sym number.0.1; fits = rw number.0.1 number.0.0.1 }, omega (arith, c.if-len-max_addr_len.true, c.max_addr_len.ensures))

pub returns-then-len-max_addr_len-clause-short : goal.returns-then-len-max_addr_len-clause-short
returns-then-len-max_addr_len-clause-short c = omega (arith, c.if-len-max_addr_len.true, c.max_addr_len.ensures, longest c.args.family)

pub returns-else-len-max_addr_len-clause-read : goal.returns-else-len-max_addr_len-clause-read
returns-else-len-max_addr_len-clause-read c = (
  refl,
  λ len h. let number = c.in-Ok.ensures.value in omega (arith, c.if-len-max_addr_len.false, c.max_addr_len.ensures, h.1, h.0.value, number.0.1),
)

pub returns-in-Err-clause-read : goal.returns-in-Err-clause-read
returns-in-Err-clause-read c = (refl, λ len h. c.in-Err.ensures.value.0 (h.0.numeral, rw h.0.value h.0.fits))
