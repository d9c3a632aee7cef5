use Rattle.bcder_primitive.proofs.Headers.{header_in}
use Rattle.bcder_primitive.proofs.written.header.header_len.Goals as goal
use Rattle.std.proofs.Common.{◌++◌, take, arith}
use Rattle.std.proofs.lemmas.Grind.{common_steps}

pub returns-clause-len : goal.returns-clause-len
returns-clause-len c =
    let i = take c.encoded-identifier.result.1 c.encoded-identifier.result.0 in
    let l = take c.encoded-size.result.1 c.encoded-size.result.0 in
    record { text = i ++ l; is = header_in i l c.requires.tag c.encoded-identifier.ensures.identifier c.encoded-size.ensures.octets; long = grind (arith, common_steps) }
