use Rattle.objects_written.proofs.Refused.{enclosed_refused}
use Rattle.objects_written.specs.Refusing.{CannotEnclose}
use Rattle.objects_written.proofs.build.write_object.Goals as goal

pub returns-in-Err-clause-refused : goal.returns-in-Err-clause-refused
returns-in-Err-clause-refused g c =
    enclosed_refused (CannotEnclose c.args.content.now.content_type.now c.args.content.now.octets.now c.args.cert.now c.args.attributes.now c.args.signature.now) c.in-Err.error c.unwritten.result c.unwritten.ensures c.in-Err.ensures.refused
