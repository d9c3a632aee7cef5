-- A bundle as it is read, and what stays of it.
use Rattle.std.specs.Prelude.{◌≡◌, ℕ, List}
use Rattle.rpki_standing.specs.declared.reader.BundleReader.{BundleReader}
use Rattle.rpki_standing.specs.certs_key.Digesting.{digests_of}
use Rattle.rpki_rules.specs.Certs.{Verdicts}
use Rattle.rpki_rules.specs.World.{World, world_of}

-- The world that is read: the bundle, by these digests and these verdicts on signatures.
abbrev pub world_by : {D V : Type 0} → (D → List ℕ → List ℕ) → (D → List ℕ → List ℕ)
    → (V → Verdicts) → BundleReader D V → World
world_by sha256 sha1 says r =
    world_of (digests_of sha256 sha1 r.digester.now) (says r.verifier.now) r.index

-- All of a reader stays that its world is made of, and its verifier is lent by the same lender; how often the verifier was
-- asked may change.
pub record SameReader {D V : Type 0} (says : V → Verdicts) (before after : BundleReader D V)
    : Type 0 where
  pub index : after.index ≡ before.index
  pub digester : after.digester ≡ before.digester
  pub verdicts : says after.verifier.now ≡ says before.verifier.now
  pub lender : after.verifier.ghost_name ≡ before.verifier.ghost_name
