use Rattle.objects_cms.proofs.Whole.{said_no}
use Rattle.objects_cms.proofs.signed.object.SignedObject.agreed.Goals as goal

pub returns-then-not-agrees-clause-refused : goal.returns-then-not-agrees-clause-refused
returns-then-not-agrees-clause-refused g c = said_no c.agrees.ensures c.if-not-agrees.true

pub returns-clause-gives : goal.returns-clause-gives
returns-clause-gives g c = (c.agrees.ensures.0 c.if-not-agrees.false, c.from_parts.ensures)
