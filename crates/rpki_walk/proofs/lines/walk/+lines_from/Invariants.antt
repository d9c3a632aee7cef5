use Rattle.std.proofs.Common.{length, ◌≡◌, ℕ, ◌-◌, List, take}
use Rattle.rpki_rules.specs.Kinds.{InSet}
use Rattle.rpki_rules.specs.Points.{Link, Point}
use Rattle.rpki_rules.specs.Chains.{places, StandsIn, Accepted}
use Rattle.rpki_walk.specs.Facts.{Stand}
use Rattle.rpki_walk.specs.Walked.{AreWalked}
use Rattle.rpki_walk.proofs.Below.{TellsUpTo}
use Rattle.rpki_walk.proofs.lines.walk.+lines_from.Given as goal

abbrev pub decreases-lines_from : goal.decreases-lines_from
decreases-lines_from g l = (g.S.Repository.world l.repository.now).depth - length l.keys.now

abbrev pub invariant-loop-file : goal.invariant-loop-file
invariant-loop-file g l = record {
  same : g.S.Repository.world l.repository ≡ g.S.Repository.world l.fn.repository;
  lender : g.S.Repository.lender l.repository ≡ g.S.Repository.lender l.fn.repository;
  told : (name : List ℕ) (a : Link) (cs : List Link) (p : Point) → Stand name a cs (record { locator = name; chain = places a cs }) l.keys l.uri (g.S.Repository.cert l.ca) (g.S.Repository.sets l.ca) → Accepted (g.S.Repository.world l.fn.repository) name a cs → StandsIn (g.S.Repository.world l.fn.repository) (InSet (g.S.Repository.sets l.ca)) (g.S.Repository.cert l.ca) p → AreWalked (g.S.Repository.world l.fn.repository) l.fn.walk → TellsUpTo (g.S.Repository.world l.fn.repository) l.fn.walk l.walk name a cs p (take l.file-index l.file-items) l.from;
}
