-- What the steps of climbing answer.
use Rattle.std.specs.Prelude.{◌≡◌, ℕ, ◌+◌, ◌-◌, ◌≤◌, ◌↔◌, Bool, true, false, IsTrue, List, [], ◌∷◌, ◌++◌, map, length, Option, Some, None}
use Rattle.rpki_judge.specs.resources.Resources.{Resources}
use Rattle.rpki_rules.specs.Certs.{Cert}
use Rattle.rpki_rules.specs.Objects.{Object}
use Rattle.rpki_rules.specs.Words.{Mem, Each}
use Rattle.rpki_rules.specs.Kinds.{InSet}
use Rattle.rpki_rules.specs.World.{World}
use Rattle.rpki_rules.specs.Points.{Link, Point, IsPoint}
use Rattle.rpki_rules.specs.Chains.{last_of, CertAt}
use Rattle.rpki_rules.specs.Attests.{Payload, IsSigned}
use Rattle.rpki_rules.specs.Judge.{Climbs, KeepsNeed, NeedAt, Needs}
use Rattle.rpki_judge.specs.declared.climb.Link.{Link as Code}
use Rattle.rpki_judge.specs.declared.judging.Judgement.{Judgement}
use Rattle.rpki_judge.specs.Needed.{IsNeed}
use Rattle.rpki_judge.specs.Evidence.{IsBelow}
use Rattle.rpki_judge.specs.Counted.{ReadsAbove, ReadsFrom}

-- What contracts see of a link, and of some.
abbrev pub link_of : {C : Type 0} → (C → Cert) → Code C → Link
link_of cert l = record { uri = l.uri.now; cert = cert l.cert }

abbrev pub links_of : {C : Type 0} → (C → Cert) → List (Code C) → List Link
links_of cert links = map (link_of cert) links

-- Its certificate's subject key identifier.
abbrev pub identifier_of : Link → List ℕ
identifier_of l = l.cert.tbs.subject_key_identifier

-- Each is what the object at its lookup key reads as.
abbrev pub AreAt : World → List Link → Type 0
AreAt w links = Each (λ l. CertAt w l.uri l.cert) links

-- The lookup keys from the anchor down of links, the last of them first.
abbrev pub places_of : List Link → List (List ℕ)
places_of [] = []
places_of (l ∷ ls) = places_of ls ++ l.uri ∷ []

-- Links of those keys are added, or there is none at one of them.
abbrev pub IsReadChain : World → List (List ℕ) → List Link → List Link → Bool → Type 0
IsReadChain w chain old new true =
    (read : List Link) × (new ≡ old ++ read) × (places_of read ≡ chain) × AreAt w read
IsReadChain w chain old new false =
    (uri : List ℕ) × Mem chain uri × ((c : Cert) → ¬ (CertAt w uri c))

-- At that point the certificate is below the authority, and this is then needed of the authority; or it isn't below.
abbrev pub IsRaised : World → Cert → Point → Link → Resources → Option Resources → Type 0
IsRaised w ca p l need (Some higher) =
    IsBelow w ca p l.uri l.cert × IsNeed (NeedAt l.cert p (InSet need)) higher
IsRaised w ca p l need None = ¬ (IsBelow w ca p l.uri l.cert)

-- What the object at a file of the point needs of the authority, where its certificate keeps it; or there is none.
abbrev pub IsNeedOfFile : World → Cert → Point → List ℕ → Option Resources → Type 0
IsNeedOfFile w ca p uri (Some higher) =
    (o : Object) × (x : Payload) × IsSigned w ca p uri o x × KeepsNeed o.cert (Needs x)
    × IsNeed (NeedAt o.cert p (Needs x)) higher
IsNeedOfFile w ca p uri None =
    (o : Object) (x : Payload) → IsSigned w ca p uri o x → ¬ (KeepsNeed o.cert (Needs x))

-- Yes exactly where the links, the last first, climb with the need; the points that are read above the last's, and on yes
-- all but that.
pub record IsJudgedUp (w : World) (name : List ℕ) (links : List Link) (need : Resources)
    (j : Judgement) : Type 0 where
  pub right : (a : Link) (cs : List Link) → links ≡ cs ++ a ∷ []
      → IsTrue j.yes ↔ Climbs w name a cs (InSet need)
  pub reads : (a : Link) (cs : List Link) → links ≡ cs ++ a ∷ []
      → ReadsAbove w a cs (InSet need) j.points
  pub bounded : j.points ≤ length links - 1
  pub all : IsTrue j.yes → j.points + 1 ≡ length links

-- An object that is read at the end of the chain, from which the chain climbs.
pub record ClimbedOn (w : World) (name : List ℕ) (a : Link) (cs : List Link) (uri : List ℕ)
    : Type 0 where
  pub payload : Payload
  pub point : Point
  pub is_point : IsPoint w (last_of a cs).cert point
  pub object : Object
  pub is_signed : IsSigned w (last_of a cs).cert point uri object payload
  pub kept : KeepsNeed object.cert (Needs payload)
  pub climbs : Climbs w name a cs (NeedAt object.cert point (Needs payload))

-- Yes exactly where there is such an object; the points that are read, and on yes all the chain's.
pub record IsJudgedAt (w : World) (name : List ℕ) (links : List Link) (uri : List ℕ) (j : Judgement)
    : Type 0 where
  pub right : (a : Link) (cs : List Link) → links ≡ cs ++ a ∷ []
      → IsTrue j.yes ↔ ClimbedOn w name a cs uri
  pub reads : (a : Link) (cs : List Link) → links ≡ cs ++ a ∷ [] → ReadsFrom w a cs uri j.points
  pub some : IsTrue j.yes → 1 ≤ length links
  pub bounded : j.points ≤ length links
  pub all : IsTrue j.yes → j.points ≡ length links
