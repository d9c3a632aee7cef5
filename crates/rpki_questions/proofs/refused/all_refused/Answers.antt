use Rattle.rpki_digests.specs.Fips.{fips}
use Rattle.rpki_validator.specs.rpki_rules.World.{run_world}
use Rattle.rpki_questions.proofs.AllRefused.{sorted_refused}
use Rattle.rpki_questions.proofs.refused.all_refused.Goals as goal

pub returns : goal.returns
returns c =
    let s = c.in_ok-sort_once.ensures in
    sorted_refused (run_world fips c.args.bundle.now) c.in_ok-diagnoses.diagnoses.items c.in_ok-found.found.items c.sort_once.new.values.items c.in_ok-diagnoses.ensures c.in_ok-found.ensures s.from_old s.sorted s.kept
