use Rattle.std.proofs.Common.{sym}
use Rattle.certs.proofs.Same.{refused_same}
use Rattle.objects_rta_written.specs.Contents.{numbers}
use Rattle.objects_rta_written.proofs.attestation.stated.NumbersValueValues.write_encoded.Goals as goal

pub returns-in-Some-clause-refused : goal.returns-in-Some-clause-refused
returns-in-Some-clause-refused g c = refused_same numbers c.args.mode _ _ _ _ (sym c.in-Some.is) c.write_encoded.ensures.refused
