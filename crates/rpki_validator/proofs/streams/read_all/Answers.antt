use Rattle.rpki_validator.proofs.streams.read_all.Goals as goal
use Rattle.std.proofs.Common.{◌++◌, arith, take}
use Rattle.std.proofs.KnownBytes.{Consumes-trans}
use Rattle.std.proofs.lemmas.Grind.{common_steps}
use Rattle.std.proofs.lemmas.Result.{err_from_is_err_and}

pub returns-in_err-extend_from_slice-in-Ok-clause-err :
    goal.returns-in_err-extend_from_slice-in-Ok-clause-err
returns-in_err-extend_from_slice-in-Ok-clause-err g c =
    let before = c.loop-piece.invariant.so_far in
    let read = c.in-Ok.ensures.bytes.0 in
    let fault = err_from_is_err_and c.from_residual.result c.from_residual.ensures.1 in
    rw fault.1 (
      c.loop-piece.text.items ++ take c.in-Ok.count c.read.new.buf,
      grind (arith, common_steps),
      Consumes-trans _ _ _ _ _ before read,
    )
