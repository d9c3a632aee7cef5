use Rattle.rpki_walk.proofs.Diagnosed.{all_diagnosed}
use Rattle.rpki_walk.proofs.diagnosis.whole.diagnose.Goals as goal

pub returns-clause-diagnoses : goal.returns-clause-diagnoses
returns-clause-diagnoses g c =
    let l = c.in_ok-judge_locators.ensures in let s = c.in_ok-sort_once.ensures in
    all_diagnosed (g.S.Repository.world c.args.repository.now) (g.S.Repository.world c.walk_all.new.repository) c.in_ok-walk_all.ensures.same (record { found = c.new.result }) c.walk_all.new.visitor c.new.ensures.items c.in_ok-walk_all.ensures.gained
    c.judge_locators.new.found.items l.wrong l.told l.apart c.sort_once.new.values.items s.sorted s.from_old s.kept
