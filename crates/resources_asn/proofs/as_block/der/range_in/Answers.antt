use Rattle.std.proofs.Common.{arith, ap, ◌∙◌}
use Rattle.resources_asn.specs.Numbers.{Number}
use Rattle.resources_asn.proofs.Reading.{ordered_given, ordered_stop, ordered_unfit, same_ends}
use Rattle.resources_asn.specs.Reading.{bounds_ends, range_ends}
use Rattle.resources_asn.proofs.as_block.der.range_in.Goals as goal

pub returns-in_err-bounds-clause-reads : goal.returns-in_err-bounds-clause-reads
returns-in_err-bounds-clause-reads g c = ordered_stop range_ends _ _ _ _ c.from_residual.ensures c.in_err-bounds.ensures.reads

pub returns-then-bounds-clause-reads : goal.returns-then-bounds-clause-reads
returns-then-bounds-clause-reads g c = ordered_unfit _ (bounds_ends c.in_ok-bounds.bounds) c.in_ok-bounds.ensures.reads (λ h. omega (arith, h, c.if-bounds.true))

pub returns-clause-reads : goal.returns-clause-reads
returns-clause-reads g c =
    let same = same_ends (ap (λ (n : Number). n.value) c.new.ensures.first ∙ c.from_u32.ensures) (ap (λ (n : Number). n.value) c.new.ensures.last ∙ c.from_u32-2.ensures) in
    ordered_given (bounds_ends c.in_ok-bounds.bounds) (range_ends c.new.result) same c.in_ok-bounds.ensures.reads (omega (arith, c.if-bounds.false))
