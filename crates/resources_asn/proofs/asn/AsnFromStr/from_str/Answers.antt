use Rattle.std.proofs.Common.{sym}
use Rattle.resources_asn.proofs.asn.AsnFromStr.from_str.Goals as goal

pub returns-in-Ok : goal.returns-in-Ok
returns-in-Ok c =
    let number = c.in-Ok.ensures.value in
    rw c.from_u32.ensures ((c.digits_of.ensures c.in-Ok.number).1 (record { numeral = number.0.0.0; value = sym number.0.1; fits = rw number.0.1 number.0.0.1 }))

pub returns-in-Err : goal.returns-in-Err
returns-in-Err c = λ n t. let h = (c.digits_of.ensures n).0 t in c.in-Err.ensures.value.0 (h.numeral, rw h.value h.fits)
