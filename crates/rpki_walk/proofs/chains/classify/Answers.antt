use Rattle.rpki_rules.specs.Kinds.{InSet}
use Rattle.rpki_walk.proofs.Findings.{class_read}
use Rattle.rpki_walk.proofs.chains.classify.Goals as goal

pub returns-clause-class : goal.returns-clause-class
returns-clause-class g c =
    let ca = c.args.ca.now in
    class_read g.S.Repository.cert g.S.Repository.sets g.S.Repository.payload (g.S.Repository.world c.args.repository.now) (g.S.Repository.world c.read_file.new.self) c.in_ok-kind.ensures.same (InSet (g.S.Repository.sets ca)) (g.S.Repository.cert ca) (g.S.Repository.point c.args.p.now) c.args.keys.now c.args.uri.now c.in_ok-kind.kind c.in_ok-kind.ensures.filed c.outcome_of.result c.outcome_of.ensures
