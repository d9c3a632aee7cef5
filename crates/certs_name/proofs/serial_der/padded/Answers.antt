use Rattle.std.proofs.Common.{append-nil}
use Rattle.certs_name.proofs.Numbers.{halves_spell}
use Rattle.certs_name.proofs.serial_der.padded.Goals as goal

pub returns : goal.returns
returns c =
    let h = c.halves-high.ensures in
    rw (c.copy_from_slice.ensures.after, c.to_be_bytes.ensures, append-nil c.copy_from_slice-2.new.self, c.copy_from_slice-2.ensures.after, c.to_be_bytes-2.ensures)
    (halves_spell c.halves-high.result.0 c.halves-high.result.1 c.args.serial h.high h.low h.value)
