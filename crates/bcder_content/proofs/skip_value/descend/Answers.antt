use Rattle.std.proofs.Common.{ap, ◌∙◌}
use Rattle.bcder_source.specs.Limits.{view}
use Rattle.bcder_content.proofs.SkipSteps.{passed, only_content, into, past, cut, not_to_end}
use Rattle.bcder_content.proofs.skip_value.descend.Goals as goal
use Rattle.bcder_content.proofs.skip_value.descend.Goals.{in-Until, in_default}

pub returns-then-start-clause-reached : goal.returns-then-start-clause-reached
returns-then-start-clause-reached g c = λ m before final o. into m final c.args.spans.now.items c.push.new.self.items c.args.start.span c.in_ok-push.ensures.ok before _ c.args.start.tag c.args.start.constructed c.if-start.true o

pub returns-in_err-skip_all-clause-cut : goal.returns-in_err-skip_all-clause-cut
returns-in_err-skip_all-clause-cut g c = passed c.from_residual-in_err-skip_all.result c.in_err-skip_all.field-0.0 _ c.from_residual-in_err-skip_all.ensures.1 (only_content c.in_err-skip_all.field-0.0 _ _ (λ short m before o. cut m before _ c.args.start.tag c.args.start.constructed c.args.start.span c.if-start.false o short) c.in_err-skip_all.ensures.refused)

pub returns-clause-reached : goal.returns-clause-reached
returns-clause-reached g c = λ m before final o.
    elim c.match-start.branch [
      | in-Until w ↦ past m final before _ _ _ c.args.spans.now.items c.args.start.tag c.args.start.constructed c.args.start.span w.in-Until.outer _ c.if-start.false w.in-Until.is o c.in_ok-skip_all.ensures.moved c.in_ok-skip_all.ensures.spent (ap (view g.S.Source.rest) (w.source-is ∙ w.set_limit.ensures))
      | in_default w ↦ not_to_end m before _ c.args.start.tag c.args.start.constructed c.args.start.span c.if-start.false w.in_default.is o
    ]
