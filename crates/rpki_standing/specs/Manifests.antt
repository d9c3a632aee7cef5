-- The manifest of an authority, by where it stands and by what is asked of it (RFC 9286 6.2, 6.3).
use Rattle.std.specs.Prelude.{ℕ, Bool, List, Result, Ok, Err}
use Rattle.objects_valid.specs.Kinds.{KindValue}
use Rattle.rpki_standing.specs.certs_extension.Verified.{nothing}
use Rattle.rpki_rules.specs.declared.reason.points.PointReason.{PointReason}
use Rattle.rpki_rules.specs.Certs.{Cert}
use Rattle.rpki_rules.specs.Objects.{Manifest, ManifestText, Object}
use Rattle.rpki_rules.specs.Points.{IsManifestOf}
use Rattle.rpki_rules.specs.PointReasons.{HasManifest, PointFails}
use Rattle.rpki_rules.specs.ReasonViews.{point_reason_of}
use Rattle.rpki_rules.specs.World.{World}

-- The octets begin with the manifest, where strict in DER, and else in BER.
abbrev pub IsReadIn : Bool → List ℕ → KindValue Manifest → Type 0
IsReadIn strict octets k = ManifestText strict octets k.signed k.content

-- The object at the authority's manifest URI reads as the manifest, or as none, and why.
abbrev pub FindsManifest : World → Cert → Result (KindValue Manifest) PointReason → Type 0
FindsManifest w ca (Ok k) = HasManifest w ca k.signed k.content
FindsManifest w ca (Err r) =
    ((o : Object) (m : Manifest) → ¬ (HasManifest w ca o m))
    × PointFails w nothing ca (point_reason_of r)

-- The manifest is the authority's, by the rules.
abbrev pub IsOwnManifest : World → Cert → KindValue Manifest → Type 0
IsOwnManifest w ca k = IsManifestOf w ca k.signed k.content
