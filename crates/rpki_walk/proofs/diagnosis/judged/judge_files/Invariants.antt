use Rattle.std.proofs.Common.{◌≡◌, ℕ, List, take}
use Rattle.rpki_rules.specs.Words.{Mem}
use Rattle.rpki_rules.specs.Kinds.{InSet}
use Rattle.rpki_rules.specs.Views.{path_of}
use Rattle.rpki_rules.specs.Diagnoses.{DiagnosisValue}
use Rattle.rpki_rules.specs.DiagnosisViews.{diagnosis_of}
use Rattle.rpki_walk.specs.Diagnosed.{DiagnosesAt, ToldValue, TellsAt, Adds, told_of}
use Rattle.rpki_walk.proofs.diagnosis.judged.judge_files.Given as goal

abbrev pub invariant-loop-file : goal.invariant-loop-file
invariant-loop-file g l = record {
  same : g.S.Repository.world l.repository ≡ g.S.Repository.world l.fn.repository;
  lender : g.S.Repository.lender l.repository ≡ g.S.Repository.lender l.fn.repository;
  wrong : Adds diagnosis_of l.fn.found.items (λ (d : DiagnosisValue). (u : List ℕ) × Mem (take l.file-index l.file-items) u × DiagnosesAt (g.S.Repository.world l.fn.repository) (InSet (g.S.Repository.sets l.ca)) l.chain.keys.now (path_of l.chain.path.now.value) (g.S.Repository.cert l.ca) (g.S.Repository.point l.point) u d) l.found.items;
  told : Adds told_of l.fn.found.items (λ (t : ToldValue). (u : List ℕ) × Mem (take l.file-index l.file-items) u × TellsAt (g.S.Repository.world l.fn.repository) (InSet (g.S.Repository.sets l.ca)) l.chain.keys.now (path_of l.chain.path.now.value) (g.S.Repository.cert l.ca) (g.S.Repository.point l.point) u t) l.found.items;
}
