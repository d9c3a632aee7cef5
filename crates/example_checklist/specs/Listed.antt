-- When a file is one that an accepted checklist lists (RFC 9323).
use Rattle.std.specs.Prelude.{◌≡◌, ℕ, List, Some, true, Err}
use Rattle.certs.specs.certs_basics.Lists.{Mem}
use Rattle.certs.specs.certs_basics.Verdicts.{Verdicts}
use Rattle.certs.specs.certs_x509.declared.errors.validation.ValidationError.{ValidationError}
use Rattle.objects.specs.Checklists.{CheckedFile, Checklist}
use Rattle.objects.specs.ProcessedChecklists.{PassesChecklist, ProcessesChecklist}
use Rattle.objects.specs.objects_valid.Accepted.{AcceptsObject}
use Rattle.objects.specs.objects_valid.Kinds.{KindValue}
use Rattle.objects.specs.objects_valid.Processed.{Test}
use Rattle.objects.specs.objects_valid.certs_extension.Verified.{HolderValue}
use Rattle.objects.specs.objects_valid.certs_extension.declared.forms.Role.TheVariants.{DetachedEe}
use Rattle.rpki_digests.specs.Fips.{fips}

-- A file is listed by that name, with that digest (RFC 9323 4.4).
pub record Lists (files : List CheckedFile) (name digest : List ℕ) : Type 0 where
  pub file : CheckedFile
  pub among : Mem files file
  pub named : file.name ≡ Some name
  pub same : file.hash ≡ digest

-- The checklist is a sound object, whose certificate was issued by the issuer, is valid at the moment, passes the test of
-- revocation, and holds what is stated (RFC 9323 5).
pub record IsAccepted (says : Test) (good : Verdicts) (now : ℕ) (issuer : HolderValue)
    (k : KindValue Checklist) : Type 0 where
  pub holder : HolderValue
  pub accepts : AcceptsObject fips good true DetachedEe now issuer k.signed holder
  pub passes : PassesChecklist says k.content holder

-- The error tells the first test that the checklist fails.
abbrev pub IsRefused
    : Test → Verdicts → ℕ → HolderValue → KindValue Checklist → ValidationError → Type 0
IsRefused says good now issuer k e = ProcessesChecklist says fips good true now issuer k (Err e)
