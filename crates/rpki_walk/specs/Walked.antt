-- What a walk for lines has found and remembers.
use Rattle.std.specs.Prelude.{◌≡◌, ◌↔◌, ◌++◌, ◌∷◌, [], ℕ, List, map, drop, slice_range}
use Rattle.rpki_walk.specs.resources.Resources.{Resources}
use Rattle.rpki_walk.specs.rpki_bundle.declared.parts.Locator.{Locator}
use Rattle.rpki_rules.specs.Certs.{Cert}
use Rattle.rpki_rules.specs.Kinds.{Kind, InSet}
use Rattle.rpki_rules.specs.Words.{Mem}
use Rattle.rpki_rules.specs.World.{World}
use Rattle.rpki_rules.specs.Points.{Link, Point}
use Rattle.rpki_rules.specs.Chains.{last_of, places, keys, Holds, Accepted}
use Rattle.rpki_rules.specs.Refused.{IsIssued}
use Rattle.rpki_rules.specs.Views.{origin_of, provision_of, refusal_of}
use Rattle.rpki_walk.specs.Facts.{Finding, Refuses, Shows, Originates, Provides, Reaches, Chains, Diagnoses, Unheld, Stand, Found, FromLocator, Gains}
use Rattle.rpki_walk.specs.Alike.{IsPrinted, Meets}
use Rattle.rpki_walk.specs.declared.repository.FileKind.{FileKind}
use Rattle.rpki_walk.specs.declared.repository.FileKind.TheVariants as Is
use Rattle.rpki_walk.specs.declared.lines.found.LinesFound.{LinesFound}
use Rattle.rpki_walk.specs.declared.lines.remembered.Walked.{Walked}
use Rattle.rpki_walk.specs.declared.lines.walk.LinesWalk.{LinesWalk}

-- What was found has this.
abbrev pub has_lines : LinesFound → Finding → Type 0
has_lines f (Refuses name why) =
    Mem (map refusal_of f.refusals.items) (record { name = name; cause = why })
has_lines f (Shows t) = ⊥
has_lines f (Originates o) = Mem (map origin_of f.origins.items) o
has_lines f (Provides p) = Mem (map provision_of f.provisions.items) p
has_lines f (Reaches k n) = ⊥
has_lines f (Chains v) = ⊥
has_lines f (Diagnoses d) = ⊥
has_lines f (Unheld d numbers) = ⊥

-- The one list is the other with more behind it.
abbrev pub Continues : List (List ℕ) → List (List ℕ) → Type 0
Continues old new = (more : List (List ℕ)) × (new ≡ old ++ more)

-- The key of what a file is, where it is a certificate.
abbrev pub keys_at : {A P : Type 0} → (A → Cert) → FileKind A P → List (List ℕ)
keys_at cert Is.Nothing = []
keys_at cert Is.Bad = []
keys_at cert (Is.Child a) = (cert a).tbs.subject_key_identifier ∷ []
keys_at cert (Is.Attests x) = []

-- The key of each certificate that is issued at the file is met.
abbrev pub MeetsFile : World → (Kind → ℕ → Type 0) → Cert → Point → List ℕ → List (List ℕ)
    → Type 0
MeetsFile w held ca p uri met =
    (c : Cert) → IsIssued w held ca p uri c → Mem met c.tbs.subject_key_identifier

-- It stands for an accepted chain; of that all is told, with all that is below it; and the keys that are met below it
-- are among those from the one place to the other.
pub record IsWalked (w : World) (walk : LinesWalk) (one : Walked) : Type 0 where
  pub name : List ℕ
  pub anchor : Link
  pub below : List Link
  pub accepted : Accepted w name anchor below
  pub uri_is : one.uri ≡ (last_of anchor below).uri
  pub keys_are : one.keys.items ≡ keys anchor below
  pub holds : (k : Kind) (n : ℕ) → InSet one.held k n ↔ Holds anchor below k n
  pub meets : Meets w name anchor below (slice_range walk.met.items one.from one.to)
  pub told : (x : Finding) → IsPrinted x → Found [] w name anchor below x → has_lines walk.lines x

abbrev pub AreWalked : World → LinesWalk → Type 0
AreWalked w walk = (one : Walked) → Mem walk.before.walked.items one → IsWalked w walk one

-- The lines that are gained are those of the chains that begin as this one; the keys that are met there stand from this
-- place on in the list of those that were met, which went on; and what is remembered was walked.
pub record TellsBelow (w : World) (old new : LinesWalk) (name : List ℕ) (a : Link) (cs : List Link)
    (from : ℕ) : Type 0 where
  pub gained : Gains IsPrinted (has_lines old.lines) (Found [] w name a cs) (has_lines new.lines)
  pub grown : Continues old.met.items new.met.items
  pub meets : Meets w name a cs (drop from new.met.items)
  pub walked : AreWalked w new

-- Whichever accepted chain the variables stand for.
abbrev pub WalksLines : World → List (List ℕ) → List ℕ → Cert → Resources → LinesWalk → LinesWalk
    → ℕ → Type 0
WalksLines w on uri ca sets old new from =
    (name : List ℕ) (a : Link) (cs : List Link)
    → Stand name a cs (record { locator = name; chain = places a cs }) on uri ca sets
    → Accepted w name a cs → AreWalked w old → TellsBelow w old new name a cs from

-- What a locator tells is gained, and what is remembered was walked.
pub record TellsLocator (w : World) (l : Locator) (old new : LinesWalk) : Type 0 where
  pub gained : Gains IsPrinted (has_lines old.lines) (FromLocator [] w l) (has_lines new.lines)
  pub walked : AreWalked w new
