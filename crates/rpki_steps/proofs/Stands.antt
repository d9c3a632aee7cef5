-- What stands at an authority's point, as it is answered.
use Rattle.std.proofs.Common.{◌≡◌, ◌∙◌, ℕ, List, Some, None, sym, ap, subst}
use Rattle.rpki_standing.specs.objects_valid.Kinds.{KindValue}
use Rattle.rpki_rules.specs.Certs.{Cert}
use Rattle.rpki_rules.specs.Objects.{Manifest}
use Rattle.rpki_rules.specs.Chains.{Fits, StandsIn}
use Rattle.rpki_rules.specs.Kinds.{Kind}
use Rattle.rpki_rules.specs.Points.{IsPoint, Point}
use Rattle.rpki_rules.specs.World.{World}
use Rattle.rpki_standing.specs.Standing.{IsStanding, StandingValue}
use Rattle.rpki_standing.proofs.OwnManifests.{one_read, own_has}
use Rattle.rpki_steps.specs.declared.point.files.File.{File}
use Rattle.rpki_steps.specs.declared.point.standing.Point.{Point as Found}
use Rattle.rpki_steps.specs.PointFiles.{AreFilesOf}
use Rattle.rpki_steps.specs.Parts.{ArePartsOf, HasNoParts}
use Rattle.rpki_steps.specs.PointOctets.{FindsPoint, IsFoundStanding}
use Rattle.rpki_steps.proofs.RepositoryFiles.{files_there}

module _ (w : World) (ca : Cert) (s : StandingValue) (is : IsStanding w ca s) where
  -- A point that stands, with its parts.
  pub parts_stand : (uri : List ℕ) (fs : List File) (found : Found) → ArePartsOf w.object ca s.point uri fs
      → found.manifest_cert ≡ s.point.object.cert → found.files.items ≡ fs → found.crl_uri ≡ uri → found.crl ≡ s.point.crl
      → IsFoundStanding (IsPoint w ca) w ca found
  parts_stand uri fs found are cert listed named list = record {
    point = s.point;
    standing = is.point;
    told = record {
      manifest_cert_is = cert;
      crl_is = list;
      crl_uri_is = are.uri_is ∙ ap (λ (u : List ℕ). Some u) (sym named);
      files_are = subst (λ (x : List File). AreFilesOf w.object ca s.point.manifest x) (sym listed) are.files_are;
    };
  }

  -- It has them.
  pub has_parts : ¬ (HasNoParts w.object ca s.point)
  has_parts none =
      let there = files_there w ca s.point.manifest is.point.files in
      none is.point.crl.uri there.0 (record { uri_is = is.point.crl.uri_is; files_are = there.1 })

-- All that stands at an authority's point has one manifest.
same_cert : (w : World) (ca : Cert) (p q : Point) → IsPoint w ca p → IsPoint w ca q → p.object.cert ≡ q.object.cert
same_cert w ca p q a b =
    let j : KindValue Manifest = record { signed = p.object; content = p.manifest } in
    let k : KindValue Manifest = record { signed = q.object; content = q.manifest } in
    ap (λ (m : KindValue Manifest). m.signed.cert) (one_read w ca j k (own_has w ca j a.manifest) (own_has w ca k b.manifest))

-- By what the authority holds.
module _ (w : World) (held : Kind → ℕ → Type 0) (ca : Cert) where
  pub none_stands : FindsPoint (IsPoint w ca) w ca None → FindsPoint (StandsIn w held ca) w ca None
  none_stands n = λ p s. n p s.point

  module _ (found : Found) (is : IsFoundStanding (IsPoint w ca) w ca found) where
    -- The claim of its manifest's certificate fits.
    pub fits_there : Fits held found.manifest_cert → IsFoundStanding (StandsIn w held ca) w ca found
    fits_there fits = record {
      point = is.point;
      standing = record { point = is.standing; fits = subst (Fits held) is.told.manifest_cert_is fits };
      told = is.told;
    }

    -- It doesn't.
    pub none_fits : ¬ (Fits held found.manifest_cert) → (p : Point) → ¬ (StandsIn w held ca p)
    none_fits unfit p s =
        let same : p.object.cert ≡ found.manifest_cert = same_cert w ca p is.point s.point is.standing ∙ sym is.told.manifest_cert_is in
        unfit (subst (Fits held) same s.fits)
