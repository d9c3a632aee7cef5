use Rattle.rpki_rules.specs.Kinds.{InSet}
use Rattle.rpki_rules.specs.Views.{path_of}
use Rattle.rpki_walk.proofs.Diagnosed.{visit_gains}
use Rattle.rpki_walk.proofs.diagnosis.judged.JudgedVisitor.visit.Goals as goal

pub returns-clause-gained : goal.returns-clause-gained
returns-clause-gained g c =
    visit_gains c.judge_end.result (g.S.Repository.world c.args.repository.now) (InSet (g.S.Repository.sets c.args.ca.now)) c.args.chain.now.keys.now (path_of c.args.chain.now.path.now.value) c.args.chain.now.uri.now (g.S.Repository.cert c.args.ca.now) c.args.self.now (record { found = c.judge_end.new.found }) c.judge_end.ensures.wrong c.judge_end.ensures.told
