use Rattle.std.proofs.Common.{length, ◌≡◌, ◌⊎◌, ℕ, ◌-◌, List, take}
use Rattle.rpki_rules.specs.Words.{Mem}
use Rattle.rpki_rules.specs.Kinds.{InSet}
use Rattle.rpki_rules.specs.Points.{Link, Point}
use Rattle.rpki_rules.specs.Chains.{StandsIn, Accepted}
use Rattle.rpki_rules.specs.Views.{path_of}
use Rattle.rpki_walk.specs.Facts.{Stand, Gains, ReachedBy, FromFile}
use Rattle.rpki_walk.proofs.chains.+walk_from.Given as goal

abbrev pub decreases-walk_from : goal.decreases-walk_from
decreases-walk_from g l = (g.S.Repository.world l.repository.now).depth - length l.chain.now.keys.now

abbrev pub invariant-loop-file : goal.invariant-loop-file
invariant-loop-file g l = record {
  same : g.S.Repository.world l.repository ≡ g.S.Repository.world l.fn.repository;
  lender : g.S.Repository.lender l.repository ≡ g.S.Repository.lender l.fn.repository;
  kept : g.V.Visitor.uris l.visitor ≡ g.V.Visitor.uris l.fn.visitor;
  gained : (name : List ℕ) (a : Link) (cs : List Link) (p : Point) → Stand name a cs (path_of l.chain.path.now.value) l.chain.keys.now l.chain.uri.now (g.S.Repository.cert l.ca) (g.S.Repository.sets l.ca) → Accepted (g.S.Repository.world l.fn.repository) name a cs → StandsIn (g.S.Repository.world l.fn.repository) (InSet (g.S.Repository.sets l.ca)) (g.S.Repository.cert l.ca) p → Gains g.V.Visitor.wants (g.V.Visitor.has l.fn.visitor) (λ x. ReachedBy (g.V.Visitor.uris l.fn.visitor) (g.S.Repository.world l.fn.repository) (InSet (g.S.Repository.sets l.ca)) l.chain.keys.now (path_of l.chain.path.now.value) l.chain.uri.now (g.S.Repository.cert l.ca) x ⊎ ((u : List ℕ) × Mem (take l.file-index l.file-items) u × FromFile (g.V.Visitor.uris l.fn.visitor) (g.S.Repository.world l.fn.repository) name a cs p u x)) (g.V.Visitor.has l.visitor);
}
