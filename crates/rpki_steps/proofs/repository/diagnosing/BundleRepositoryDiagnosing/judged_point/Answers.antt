use Rattle.rpki_steps.specs.Points.{point_of}
use Rattle.rpki_steps.proofs.PointLemmas.{judged}
use Rattle.rpki_steps.proofs.repository.diagnosing.BundleRepositoryDiagnosing.judged_point.Goals as goal

pub returns-clause-judged : goal.returns-clause-judged
returns-clause-judged g c =
    judged point_of _ _ _ c.read_point.result (rw c.verified.ensures.cert at c.read_point.ensures.stands)
    (rw c.verified.ensures.cert at c.read_point.ensures.refused) (rw c.verified.ensures.cert at c.read_point.ensures.unheld)
