-- What the object at a file of a publication point is, what its certificate claims apart.
use Rattle.std.specs.Prelude.{◌≡◌, ◌⊎◌, ◌++◌, ℕ, List, map, Option, Some, None, Result, Ok, Err}
use Rattle.rpki_standing.specs.certs_extension.declared.forms.Role.TheVariants.{Ee}
use Rattle.rpki_rules.specs.resources.Resources.{Resources}
use Rattle.rpki_rules.specs.declared.cause.Cause.TheVariants as cause
use Rattle.rpki_rules.specs.declared.reason.files.FileReason.{FileReason}
use Rattle.rpki_rules.specs.Certs.{Cert}
use Rattle.rpki_rules.specs.Objects.{Object}
use Rattle.rpki_rules.specs.Attests.{Payload, IsSigned}
use Rattle.rpki_rules.specs.Chains.{HasExtension, asa, roa}
use Rattle.rpki_rules.specs.Kinds.{InSet}
use Rattle.rpki_rules.specs.Points.{Point}
use Rattle.rpki_rules.specs.World.{World}
use Rattle.rpki_rules.specs.Reasons.{cert_tests, content_tests}
use Rattle.rpki_rules.specs.FileReasons.{revocation_tests, ObjectTest, ObjectRevocation, ObjectCert, ObjectContent, HasPayload, FileFails, file_cause}
use Rattle.rpki_rules.specs.ReasonViews.{file_reason_of, FileUnheld}

-- A signed object, and what it attests.
pub record PublishedValue : Type 0 where
  pub object : Object
  pub payload : Payload

-- What the object with that lookup key reads as, or that it reads as nothing.
abbrev pub FindsReading : World → List ℕ → Option PublishedValue → Type 0
FindsReading w uri None = (o : Object) (x : Payload) → ¬ (HasPayload w uri o x)
FindsReading w uri (Some s) = HasPayload w uri s.object s.payload

-- The tests of an object that look at nothing that is held: revocation, form and signature of its certificate, and its
-- content.
abbrev pub signed_tests : List ObjectTest
signed_tests =
    map ObjectRevocation revocation_tests
    ++ (map ObjectCert (cert_tests Ee) ++ map ObjectContent content_tests)

-- No object is sound there, for this reason, whatever is held.
pub record IsUnsigned (w : World) (ca : Cert) (p : Point) (uri : List ℕ) (r : FileReason)
    : Type 0 where
  pub none : (o : Object) (x : Payload) → ¬ (IsSigned w ca p uri o x)
  pub fails : HasExtension roa uri ⊎ HasExtension asa uri →
      (sets : Resources) (on : List (List ℕ)) (count : ℕ) →
      FileFails w (InSet sets) on count ca p uri (file_reason_of r)
  pub unheld : (sets : Resources) → FileUnheld w (InSet sets) uri r
  pub cause_is : file_cause (file_reason_of r) ≡ cause.Object

-- The object at a file of the point, if it is sound there; else the reason.
abbrev pub FindsObject : World → Cert → Point → List ℕ → Result PublishedValue FileReason → Type 0
FindsObject w ca p uri (Ok s) = IsSigned w ca p uri s.object s.payload
FindsObject w ca p uri (Err r) = IsUnsigned w ca p uri r
