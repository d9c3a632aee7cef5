use Rattle.objects_rta_valid.proofs.Picking.{TellsBefore}
use Rattle.objects_rta_valid.proofs.paths.table.table_of.Given as goal

abbrev pub invariant-loop-place : goal.invariant-loop-place
invariant-loop-place l = TellsBefore l.nodes l.issuers l.place l.table
