-- Pieces of texts of lists.
use Rattle.std.proofs.Common.{ℕ, ◌<◌, List, ◌∷◌, length, inl, inr, ap, length-append, arith}
use Rattle.resources_chain.specs.Lists.{CutsPiece}

pub piece_shorter : {text piece rest : List ℕ} → CutsPiece text piece rest → length rest < length text
piece_shorter {text} {piece} {rest} c =
    elim c.space [
      | inl e ↦ omega (arith, ap length c.whole, length-append piece (44 ∷ c.behind), ap length e)
      | inr e ↦ omega (arith, ap length c.whole, length-append piece (44 ∷ c.behind), ap length e.0)
    ]
