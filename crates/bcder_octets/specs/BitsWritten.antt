-- That a bit string has one content in a mode (X.690 11.2).
use Rattle.std.proofs.Common.{◌≡◌, ℕ, List, sym, ◌∙◌}
use Rattle.bcder_octets.specs.bcder_tree.declared.mode.Mode.{Mode}
use Rattle.bcder_octets.specs.Bits.{BitsValue}
use Rattle.bcder_octets.specs.BitContents.{WritesBits}

pub one_bits : (m : Mode) (v : BitsValue) (a b : List ℕ) → WritesBits m v a → WritesBits m v b
    → a ≡ b
one_bits m v a b x y = x.whole ∙ sym y.whole
