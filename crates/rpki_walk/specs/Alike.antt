-- Chains that end alike: whatever is below one of them is below the other, and its lines are the same.
use Rattle.std.specs.Prelude.{◌≡◌, ◌↔◌, ℕ, List, [], length}
use Rattle.rpki_rules.specs.Certs.{Cert}
use Rattle.rpki_rules.specs.Kinds.{Kind}
use Rattle.rpki_rules.specs.Words.{Mem}
use Rattle.rpki_rules.specs.World.{World}
use Rattle.rpki_rules.specs.Points.{Link, Point, files}
use Rattle.rpki_rules.specs.Chains.{last_of, keys, IsFront, Holds, Stands, Accepted}
use Rattle.rpki_rules.specs.Refused.{IsIssued}
use Rattle.rpki_walk.specs.Facts.{Finding, Refuses, Shows, Originates, Provides, Reaches, Chains, Diagnoses, Unheld, Found}

-- What lines tell: what is attested and what is refused, and not by which chain.
abbrev pub IsPrinted : Finding → Type 0
IsPrinted (Refuses name why) = Unit {0}
IsPrinted (Shows t) = ⊥
IsPrinted (Originates o) = Unit {0}
IsPrinted (Provides p) = Unit {0}
IsPrinted (Reaches k n) = ⊥
IsPrinted (Chains v) = ⊥
IsPrinted (Diagnoses d) = ⊥
IsPrinted (Unheld d numbers) = ⊥

-- At a point at the end of the chain this certificate is issued as it should, keys and depth apart (RFC 6487 7.2).
pub record IsMetAt (w : World) (a : Link) (cs : List Link) (c : Cert) : Type 0 where
  pub point : Point
  pub stands : Stands w a cs point
  pub uri : List ℕ
  pub listed : Mem (files (last_of a cs).cert point.manifest) uri
  pub issued : IsIssued w (Holds a cs) (last_of a cs).cert point uri c

-- The keys have each one of a certificate that is issued at the end of an accepted chain that begins as this one.
abbrev pub Meets : World → List ℕ → Link → List Link → List (List ℕ) → Type 0
Meets w name a cs met =
    (ds : List Link) → IsFront cs ds → Accepted w name a ds
    → (c : Cert) → IsMetAt w a ds c → Mem met c.tbs.subject_key_identifier

-- Two chains end with one certificate, at one place, hold the same numbers, are as long as each other, and each of the
-- keys is on both or on neither.
pub record EndAlike (met : List (List ℕ)) (a : Link) (cs : List Link) (b : Link)
    (ds : List Link) : Type 0 where
  pub last : last_of a cs ≡ last_of b ds
  pub holds : (k : Kind) (n : ℕ) → Holds a cs k n ↔ Holds b ds k n
  pub count : length cs ≡ length ds
  pub on : (key : List ℕ) → Mem met key → Mem (keys a cs) key ↔ Mem (keys b ds) key

-- Accepted chains that end alike, as far as any key is concerned that is met below one of them, tell the same lines with
-- all that is below them.
abbrev pub AlikeTellAlike : Type 0
AlikeTellAlike =
    (w : World) (met : List (List ℕ)) (name other : List ℕ) (a b : Link) (cs ds : List Link)
    → Accepted w name a cs → Accepted w other b ds → Meets w name a cs met
    → EndAlike met a cs b ds
    → (x : Finding) → IsPrinted x → Found [] w name a cs x ↔ Found [] w other b ds x
