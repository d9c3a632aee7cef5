use Rattle.bcder_content.proofs.Windows.{tags_unequal, bools_differ, tags_same}
use Rattle.bcder_content.proofs.Taking.{only_weaker, none_of, other_tag, other_form, refused_by, none_named, tag_named_as, on_content}
use Rattle.bcder_content.specs.Here.{here}
use Rattle.bcder_content.proofs.constructed.Constructed.open_if.Goals as goal

pub returns-in-Err-clause-refused : goal.returns-in-Err-clause-refused
returns-in-Err-clause-refused g c = only_weaker c.in-Err.error (none_of c.args.tag c.args.constructed) c.in-Err.ensures.refused

pub returns-then-ne-clause-refused : goal.returns-then-ne-clause-refused
returns-then-ne-clause-refused g c = refused_by c.refuse.ensures.error (other_tag c.args.tag c.args.constructed c.in-Ok.ensures.entered (tags_unequal c.ne.ensures c.if-ne.true))

pub returns-then-form-constructed-clause-refused : goal.returns-then-form-constructed-clause-refused
returns-then-form-constructed-clause-refused g c = refused_by c.refuse-then-form-constructed.ensures.error (other_form c.args.tag c.args.constructed c.in-Ok.ensures.entered (bools_differ _ _ c.if-form-constructed.true))

pub returns-in-Err-clause-named : goal.returns-in-Err-clause-named
returns-in-Err-clause-named g c = none_named (here g.S.Source.rest c.args.self.now) c.args.tag c.in-Err.error c.in-Err.ensures.refused

pub returns-then-ne-clause-named : goal.returns-then-ne-clause-named
returns-then-ne-clause-named g c = on_content c.refuse.result (record { names = λ t a d. c.refuse.ensures.error })

pub returns-then-form-constructed-clause-named : goal.returns-then-form-constructed-clause-named
returns-then-form-constructed-clause-named g c =
    tag_named_as c.refuse-then-form-constructed.result (tags_same c.ne.ensures c.if-ne.false) c.in-Ok.ensures.entered
