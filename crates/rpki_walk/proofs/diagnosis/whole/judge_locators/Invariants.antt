use Rattle.std.proofs.Common.{◌≡◌, ◌⊎◌, take}
use Rattle.rpki_walk.specs.rpki_bundle.declared.parts.Locator.{Locator}
use Rattle.rpki_rules.specs.declared.reason.diagnosis.Diagnosis.{Diagnosis}
use Rattle.rpki_rules.specs.Words.{Mem}
use Rattle.rpki_rules.specs.Diagnoses.{DiagnosisValue, DiagnosesLocator}
use Rattle.rpki_rules.specs.DiagnosisViews.{diagnosis_of}
use Rattle.rpki_walk.specs.Diagnosed.{Adds, IsOfLocator}
use Rattle.rpki_walk.proofs.diagnosis.whole.judge_locators.Given as goal

abbrev pub invariant-loop-at : goal.invariant-loop-at
invariant-loop-at g l = record {
  same : g.S.Repository.world l.repository ≡ g.S.Repository.world l.fn.repository;
  lender : g.S.Repository.lender l.repository ≡ g.S.Repository.lender l.fn.repository;
  wrong : Adds diagnosis_of l.fn.found.items (λ (d : DiagnosisValue). (u : Locator) × Mem (take l.at (g.S.Repository.world l.fn.repository).locators) u × DiagnosesLocator (g.S.Repository.world l.fn.repository) u d) l.found.items;
  told : (d : Diagnosis) → Mem l.found.items d → Mem l.fn.found.items d ⊎ ((u : Locator) × Mem (take l.at (g.S.Repository.world l.fn.repository).locators) u × IsOfLocator (g.S.Repository.world l.fn.repository) u d);
}
