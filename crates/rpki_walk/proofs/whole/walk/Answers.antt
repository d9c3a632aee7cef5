use Rattle.std.proofs.Common.{map}
use Rattle.std.proofs.lemmas.Result.{IfOk-weaker}
use Rattle.rpki_rules.specs.Report.{IsReport, IsReportOf}
use Rattle.rpki_rules.specs.Views.{origin_of, provision_of, refusal_of, witness_of}
use Rattle.rpki_walk.proofs.Reports.{report_is}
use Rattle.rpki_walk.proofs.whole.walk.Goals as goal

pub returns-clause-report : goal.returns-clause-report
returns-clause-report g c =
    let w = g.S.Repository.world c.args.repository.now in
    let found = c.walk_all.new.visitor in
    let lines = found.lines in
    IfOk-weaker c.report.result (IsReportOf (map origin_of lines.origins.items) (map provision_of lines.provisions.items) (map refusal_of lines.refusals.items) (map witness_of found.witnesses.items)) (IsReport w)
    (report_is w (record { lines = c.new.result; witnesses = c.new-2.result }) found c.new.ensures.origins c.new.ensures.provisions c.new.ensures.refusals c.new-2.ensures.items c.in_ok-walk_all.ensures.gained)
    c.report.ensures
