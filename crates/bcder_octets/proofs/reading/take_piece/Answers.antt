use Rattle.bcder_octets.proofs.of_bcder_content.Taking.{weaker}
use Rattle.bcder_octets.proofs.Wanting.{more, piece_next}
use Rattle.bcder_octets.proofs.InOnePiece.{piece_given, piece_lacks}
use Rattle.bcder_octets.proofs.reading.take_piece.Goals as goal

pub returns-in-Ok-clause-reads : goal.returns-in-Ok-clause-reads
returns-in-Ok-clause-reads g c = piece_given c.new.ensures c.in-Ok.ensures.reads

pub returns-in-Err-clause-reads : goal.returns-in-Err-clause-reads
returns-in-Err-clause-reads g c = weaker _ piece_lacks c.in-Err.ensures.reads

pub returns-in-Err-clause-memory : goal.returns-in-Err-clause-memory
returns-in-Err-clause-memory g c = more _ piece_next c.in-Err.ensures.memory
