use Rattle.bcder.proofs.Dots.{refused_numbers, through, numbers_through}
use Rattle.bcder.proofs.oid.text.read_text.Goals as goal

pub returns-in_err-octets-clause-refused : goal.returns-in_err-octets-clause-refused
returns-in_err-octets-clause-refused c =
    through c.from_residual-in_err-octets.result c.in_err-octets.field-0.0 c.from_residual-in_err-octets.ensures (refused_numbers c.in_ok-numbers.ensures.reads c.deref.ensures.value) c.in_err-octets.ensures.refused

pub returns-in_err-octets-clause-cause : goal.returns-in_err-octets-clause-cause
returns-in_err-octets-clause-cause c =
    numbers_through c.args.text.now c.from_residual-in_err-octets.result c.in_err-octets.field-0.0 c.from_residual-in_err-octets.ensures c.in_ok-numbers.ensures.reads c.deref.ensures.value c.in_err-octets.ensures.cause
