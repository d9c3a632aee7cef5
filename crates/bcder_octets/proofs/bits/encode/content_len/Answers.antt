use Rattle.std.proofs.Common.{◌∷◌, subst, arith}
use Rattle.bcder_octets.specs.bcder_tree.declared.mode.Mode.{Mode}
use Rattle.bcder_octets.specs.BitContents.{WritesBits, padded_in}
use Rattle.bcder_octets.specs.Bits.{BitsValue}
use Rattle.bcder_octets.proofs.BitWritings.{length-padded, length-written, written, unwritten}
use Rattle.bcder_octets.proofs.bits.encode.content_len.Goals as goal

pub returns-then-is_long-clause-refused : goal.returns-then-is_long-clause-refused
returns-then-is_long-clause-refused c =
    let v : BitsValue = record { unused = c.args.unused; octets = c.args.octets.now } in
    let long = c.is_long.ensures.long c.if-is_long.true in
    (long.0, λ content w. unwritten v long.1 content (subst (λ (m : Mode). WritesBits m v content) long.0 w))

pub returns-then-len-ge-MAX_LEN-clause-refused : goal.returns-then-len-ge-MAX_LEN-clause-refused
returns-then-len-ge-MAX_LEN-clause-refused c =
    let v : BitsValue = record { unused = c.args.unused; octets = c.args.octets.now } in
    λ content w few. omega (arith, length-written c.args.mode v content w)

pub returns-clause-len : goal.returns-clause-len
returns-clause-len c =
    let v : BitsValue = record { unused = c.args.unused; octets = c.args.octets.now } in
    record {
      text = v.unused ∷ (padded_in c.args.mode v).octets;
      is = written c.args.mode v c.requires (c.is_long.ensures.short c.if-is_long.false);
      long = omega (arith, length-padded c.args.mode v);
    }
