use Rattle.bcder_content.proofs.Taking.{ends_unread, refused_by}
use Rattle.bcder_content.proofs.constructed.Constructed.close.Goals as goal

pub returns-then-not-left-clause-refused : goal.returns-then-not-left-clause-refused
returns-then-not-left-clause-refused g c = refused_by c.refuse-then-not-left.ensures.error (ends_unread c.args.outer.span (c.in-Ok.ensures.no c.if-not-left.true))
