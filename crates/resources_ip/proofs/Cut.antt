-- What is left after a piece of a list's text is shorter, which ends the loop over its pieces.
use Rattle.std.proofs.Common.{ℕ, ◌<◌, List, length}
use Rattle.resources_ip.specs.resources_chain.Lists.{CutsPiece}
use Rattle.resources_ip.proofs.of_resources_chain.CutLemmas.{piece_shorter as chain_shorter}

pub piece_shorter : {text piece rest : List ℕ} → CutsPiece text piece rest → length rest < length text
piece_shorter c = chain_shorter c
