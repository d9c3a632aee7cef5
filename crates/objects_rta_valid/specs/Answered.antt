-- What validation answers: the words of its clauses.
use Rattle.std.specs.Prelude.{◌≡◌, ℕ, Bool, List, length, Result, Ok, Err}
use Rattle.certs_verify.specs.certs_basics.HandedIn.{Digests}
use Rattle.certs_verify.specs.certs_basics.Lists.{Each, FirstFailing}
use Rattle.certs_verify.specs.certs_basics.Verdicts.{Verdicts}
use Rattle.objects_rta_valid.specs.Paths.{AreAllOn, PathsValue}
use Rattle.objects_rta.specs.AttestationParts.{RtaValue}
use Rattle.objects_rta_valid.specs.declared.errors.RtaError.{RtaError}
use Rattle.objects_rta_valid.specs.declared.errors.RtaError.TheVariants.{Test, Memory}
use Rattle.objects_rta_valid.specs.Validity.{AreItsPaths, FailsFirst, IsValid, Passes, path_tests}

-- The only paths, over all certificates that are carried.
pub record IsWalk (r : RtaValue) (p : PathsValue) : Type 0 where
  pub all : p.count ≡ length r.signed.certs
  pub only : AreItsPaths r p.paths

-- The tests of paths are passed, or the first that isn't; they need no digests and no verdicts, so any serve.
pub record HasWalked (r : RtaValue) (p : PathsValue) : Type 0 where
  pub walk : IsWalk r p
  pub all_on : AreAllOn p.paths p.count
  pub passed : (d : Digests) (good : Verdicts) (strict : Bool) (now : ℕ)
      → Each (Passes d good strict now r) path_tests

abbrev pub WalksTo : RtaValue → Result PathsValue RtaError → Type 0
WalksTo r (Ok p) = HasWalked r p
WalksTo r (Err (Test t)) = (d : Digests) (good : Verdicts) (strict : Bool) (now : ℕ)
    → FirstFailing (Passes d good strict now r) path_tests t
WalksTo r (Err Memory) = Unit {0}

-- The attestation is valid, or the first test that it doesn't pass; lack of memory says nothing.
abbrev pub Validates : {A : Type 0} → Digests → Verdicts → Bool → ℕ → RtaValue
    → Result A RtaError → Type 0
Validates d good strict now r (Ok x) = IsValid d good strict now r
Validates d good strict now r (Err (Test t)) = FailsFirst d good strict now r t
Validates d good strict now r (Err Memory) = Unit {0}

-- A valid attestation, and the paths of its signers.
pub record ValidationValue : Type 0 where
  pub rta : RtaValue
  pub paths : List (List ℕ)
