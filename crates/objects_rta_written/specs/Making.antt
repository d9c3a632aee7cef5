-- How an attestation is made of the sets of all blocks that were given.
use Rattle.std.specs.Prelude.{◌≡◌, ℕ, List, [], ◌∷◌}
use Rattle.objects_written.specs.bcder_tree.declared.mode.Mode.TheVariants.{Der}
use Rattle.objects_written.specs.bcder_primitive.declared.written.error.EncodeError.{EncodeError}
use Rattle.objects_written.specs.bcder_primitive.declared.written.error.EncodeError.TheVariants as causes
use Rattle.resources_ip.specs.resources_chain.Claims.{Choice}
use Rattle.resources_ip.specs.resources_chain.Sets.{AreMaximal, InRuns, IsRunsOf, Run}
use Rattle.resources_ip.specs.resources_chain.declared.choice.ResourcesChoice.TheVariants.{Missing, Blocks}
use Rattle.resources_ip.specs.WholeSets.{AreWhole}
use Rattle.objects_rta.specs.Attestations.{Attestation}
use Rattle.objects_rta_written.specs.Taking.{IsTooLong}
use Rattle.objects_rta_written.specs.Builders.{AreNone}
use Rattle.objects_rta_written.specs.Contents.{attestation}
use Rattle.objects_rta_written.specs.declared.builder.AttestationError.{AttestationError}
use Rattle.objects_rta_written.specs.declared.builder.AttestationError.TheVariants as errors
use Rattle.objects_rta_written.specs.declared.builder.making.Sets.{Sets}

-- A set is listed where it has a number, and else the kind is missing.
abbrev pub chosen : List Run → Choice
chosen [] = Missing
chosen (r ∷ rs) = Blocks (r ∷ rs)

abbrev pub said_by : List (List ℕ) → Sets → List ℕ → Attestation
said_by keys s digest = record {
  keys = keys;
  resources = record { asn = chosen s.asn; v4 = chosen s.v4; v6 = chosen s.v6 };
  digest = digest;
}

-- Some set has a number, and that of IPv4 addresses is over whole ones.
pub record IsStatedBy (s : Sets) : Type 0 where
  pub some : ¬ ((s.asn ≡ []) × ((s.v4 ≡ []) × (s.v6 ≡ [])))
  pub whole : AreWhole s.v4
  pub asn : AreMaximal s.asn
  pub v4 : AreMaximal s.v4
  pub v6 : AreMaximal s.v6

-- The sets of all numbers of the blocks.
pub record AreSetsOf (asn v4 v6 : List Run) (s : Sets) : Type 0 where
  pub asn_is : IsRunsOf (InRuns asn) s.asn
  pub v4_is : IsRunsOf (InRuns v4) s.v4
  pub v6_is : IsRunsOf (InRuns v6) s.v6
  pub stated : IsStatedBy s

-- No block has a number.
abbrev pub AreAllNone : List Run → List Run → List Run → Type 0
AreAllNone asn v4 v6 = AreNone asn × (AreNone v4 × AreNone v6)

-- Why there are no such sets.
abbrev pub SetsRefused : List Run → List Run → List Run → AttestationError → Type 0
SetsRefused asn v4 v6 errors.NoResources = AreAllNone asn v4 v6
SetsRefused asn v4 v6 errors.NotWhole =
    (AreAllNone asn v4 v6 → ⊥) × (AreWhole v4 → ⊥)
SetsRefused asn v4 v6 errors.TooLong = ⊥
SetsRefused asn v4 v6 errors.Memory = Unit {0}

-- Why the attestation isn't made.
abbrev pub MakingRefused : Attestation → AttestationError → Type 0
MakingRefused a errors.NoResources = ⊥
MakingRefused a errors.NotWhole = ⊥
MakingRefused a errors.TooLong = IsTooLong ((attestation a).writes Der)
MakingRefused a errors.Memory = Unit {0}

-- Why an attestation isn't made of what isn't written.
abbrev pub told_as : EncodeError → AttestationError
told_as causes.CerUnsupported = errors.TooLong
told_as causes.TooLong = errors.TooLong
told_as causes.Write = errors.TooLong
told_as causes.Memory = errors.Memory
