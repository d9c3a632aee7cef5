use Rattle.std.proofs.Common.{refl}
use Rattle.objects_cms.proofs.of_bcder_content.InMode.{begin, next, stop, done}
use Rattle.objects_cms.proofs.manifest.file.skip_fields.Goals as goal

pub returns-in_err-name-clause-reads : goal.returns-in_err-name-clause-reads
returns-in_err-name-clause-reads g c = stop _ begin c.from_residual.ensures c.in_err-name.ensures.reads

pub returns-in_err-hash-clause-reads : goal.returns-in_err-hash-clause-reads
returns-in_err-hash-clause-reads g c = stop _ (next begin c.in_ok-name.ensures.reads) c.from_residual-in_err-hash.ensures c.in_err-hash.ensures.reads

pub returns-clause-reads : goal.returns-clause-reads
returns-clause-reads g c = done (next (next begin c.in_ok-name.ensures.reads) c.in_ok-hash.ensures.reads) refl
