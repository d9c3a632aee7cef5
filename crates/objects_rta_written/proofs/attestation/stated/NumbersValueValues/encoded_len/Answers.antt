use Rattle.std.proofs.Common.{sym}
use Rattle.certs.proofs.Same.{no_len_same}
use Rattle.objects_rta_written.specs.Contents.{numbers}
use Rattle.objects_rta_written.proofs.attestation.stated.NumbersValueValues.encoded_len.Goals as goal

pub returns-in-Some-clause-refused : goal.returns-in-Some-clause-refused
returns-in-Some-clause-refused c = no_len_same numbers c.args.mode _ (sym c.in-Some.is) c.encoded_len.ensures.refused
