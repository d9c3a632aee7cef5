use Rattle.objects_valid.specs.Reading.{parts_of}
use Rattle.objects_valid.proofs.Parts.{stated_given, stated_stop, stated_unfit, said_no}
use Rattle.objects_valid.proofs.stated.take_content.Goals as goal

pub returns-in_err-read : goal.returns-in_err-read
returns-in_err-read g c = stated_stop c.args.form _ _ _ _ c.from_residual.ensures c.in_err-read.ensures.reads

pub returns-then-not-says_some : goal.returns-then-not-says_some
returns-then-not-says_some g c =
    stated_unfit c.args.form (parts_of c.in_ok-read.read) c.content_err.result c.in_ok-read.ensures.reads (said_no c.says_some.ensures c.if-not-says_some.true)

pub returns : goal.returns
returns g c =
    stated_given c.args.form (parts_of c.in_ok-read.read) c.in_ok-read.ensures.reads (c.says_some.ensures.0 c.if-not-says_some.false) c.listed.ensures
