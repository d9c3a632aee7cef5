use Rattle.std.proofs.Common.{sym, ◌∙◌}
use Rattle.bcder_octets.proofs.Wanting.{der_next, mapped}
use Rattle.bcder_octets.proofs.InOnePiece.{in_der}
use Rattle.bcder_octets.proofs.string.OctetString.take_from.Goals as goal

pub returns-in-Der-clause-reads : goal.returns-in-Der-clause-reads
returns-in-Der-clause-reads g c = in_der _ _ _ c.mode.ensures c.in-Der.is c.take_piece.ensures.reads

pub returns-in-Der-clause-memory : goal.returns-in-Der-clause-memory
returns-in-Der-clause-memory g c = mapped c.take_piece.result (der_next (sym c.mode.ensures ∙ c.in-Der.is)) c.take_piece.ensures.memory

pub returns-in-Der-clause-memory_in_der : goal.returns-in-Der-clause-memory_in_der
returns-in-Der-clause-memory_in_der g c = mapped c.take_piece.result (λ h der. h) c.take_piece.ensures.memory
