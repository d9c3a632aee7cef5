-- What stands at a publication point by what is held, and else why nothing does.
use Rattle.std.proofs.Common.{ℕ, ◌∷◌, map, Result, Ok, Err, sym, subst}
use Rattle.std.specs.Prelude.{IfErr, IfOk}
use Rattle.rpki_steps.specs.certs_basics.Lists.{Each, FirstFailing}
use Rattle.rpki_steps.specs.certs_extension.Verified.{nothing}
use Rattle.rpki_rules.specs.certs_x509.declared.errors.verification.Overclaimed.{Overclaimed}
use Rattle.rpki_rules.specs.declared.reason.points.ListTest.{ListTest as Told}
use Rattle.rpki_rules.specs.declared.reason.points.ListTest.TheVariants as crl
use Rattle.rpki_rules.specs.declared.reason.points.PointReason.{PointReason}
use Rattle.rpki_rules.specs.declared.reason.points.PointReason.TheVariants as why
use Rattle.rpki_rules.specs.Certs.{Cert}
use Rattle.rpki_rules.specs.Chains.{Fits, StandsIn}
use Rattle.rpki_rules.specs.Kinds.{Kind}
use Rattle.rpki_rules.specs.Objects.{Object}
use Rattle.rpki_rules.specs.PointReasons.{ListTest, ListAuthority, ListThisUpdate, ListNextUpdate, NotOnList, ListSignature, ManifestClaim, ListFails, HasGoodManifest, HasList, PassesList, PointFails}
use Rattle.rpki_rules.specs.Points.{Point}
use Rattle.rpki_rules.specs.Reasons.{AreUnheld, kinds}
use Rattle.rpki_rules.specs.ReasonViews.{ListUnheld, PointUnheld, kind_claimed, list_test_of, point_reason_of, runs_claimed}
use Rattle.rpki_rules.specs.World.{World}
use Rattle.rpki_rules.proofs.FirstParts.{first_behind, first_map}
use Rattle.rpki_rules.proofs.Firsts.{each_split}
use Rattle.rpki_rules.proofs.PointReasons.{good_of, same_manifest}
use Rattle.rpki_standing.specs.PointFaults.{FailsUnheld, unheld_tests}
use Rattle.rpki_standing.specs.Standing.{IsStanding, StandingValue}
use Rattle.rpki_walk.specs.Asked.{IsJudged}
use Rattle.rpki_steps.specs.Claims.{IsUnfit}

-- A test of a list that isn't one of a claim.
abbrev IsUnclaimed : ListTest → Type 0
IsUnclaimed ListAuthority = Unit {0}
IsUnclaimed ListThisUpdate = Unit {0}
IsUnclaimed ListNextUpdate = Unit {0}
IsUnclaimed NotOnList = Unit {0}
IsUnclaimed ListSignature = Unit {0}
IsUnclaimed (ManifestClaim k) = ⊥

module _ (w : World) (held : Kind → ℕ → Type 0) (ca : Cert) where
  -- No claim is among the tests for which nothing need be held.
  no_claim : (p : Point) (k : Kind) → ¬ (FirstFailing (PassesList w nothing ca p) unheld_tests (ManifestClaim k))
  no_claim p k f = (each_split IsUnclaimed f.front (ManifestClaim k ∷ f.behind) (subst (Each IsUnclaimed) f.whole (tt, (tt, (tt, (tt, (tt, tt))))))).1.0

  list_unclaimed : (p : Point) (t : Told) → FirstFailing (PassesList w nothing ca p) unheld_tests (list_test_of t) → ListUnheld w held ca t
  list_unclaimed p crl.ListAuthority f = tt
  list_unclaimed p crl.ListThisUpdate f = tt
  list_unclaimed p crl.ListNextUpdate f = tt
  list_unclaimed p crl.NotOnList f = tt
  list_unclaimed p crl.ListSignature f = tt
  list_unclaimed p (crl.ManifestClaim x) f = absurd (no_claim p (kind_claimed x) f)

  pub unclaimed : (r : PointReason) → FailsUnheld w ca r → PointUnheld w held ca r
  unclaimed why.NoManifest f = tt
  unclaimed why.BadManifest f = tt
  unclaimed (why.ManifestFails t) f = tt
  unclaimed why.BadList f = tt
  unclaimed (why.ListFails t) f = list_unclaimed f.0 t f.3

  module _ (s : StandingValue) (is : IsStanding w ca s) where
    good : HasGoodManifest w ca s.point.object s.point.manifest
    good = good_of w ca s.point.object s.point.manifest s.point.crl is.point.manifest is.point.files is.point.crl

    list : HasList w s.point.object s.point.crl
    list = let l = is.point.crl in record { uri = l.uri; uri_is = l.uri_is; octets = l.octets; held = l.held; reads = l.reads }

    passes : Each (PassesList w held ca s.point) unheld_tests
    passes = let l = is.point.crl in (l.authority, (l.current.0, (l.current.1, (l.not_revoked, (l.good, tt)))))

    -- The claim of its manifest's certificate doesn't fit, and these numbers aren't held.
    pub claim_fails : (x : Overclaimed) → IsUnfit held s.point.object.cert x → PointFails w held ca (ListFails (ManifestClaim (kind_claimed x)))
    claim_fails x u = (
      s.point,
      good,
      list,
      first_behind (PassesList w held ca s.point) unheld_tests (map ManifestClaim kinds) (ManifestClaim (kind_claimed x)) passes
          (first_map ManifestClaim (PassesList w held ca s.point) kinds (kind_claimed x) u.first),
    )

    pub claim_unheld : (x : Overclaimed) → IsUnfit held s.point.object.cert x → ListUnheld w held ca (crl.ManifestClaim x)
    claim_unheld x u o m h =
        subst (λ (q : Object). AreUnheld held q.cert (kind_claimed x) (runs_claimed x)) (sym (same_manifest w ca o s.point.object m s.point.manifest h good.has).0) u.unheld

    -- It fits.
    pub fit : Fits held s.point.object.cert → StandsIn w held ca s.point
    fit f = record { point = is.point; fits = f }

-- The point that stands, or why none does.
pub judged : {P E : Type 0} (point : P → Point) (w : World) (held : Kind → ℕ → Type 0) (ca : Cert) (r : Result (Result P PointReason) E)
    → IfOk r (λ told. IfOk told (λ p. StandsIn w held ca (point p))) → IfOk r (λ told. IfErr told (λ x. PointFails w held ca (point_reason_of x)))
    → IfOk r (λ told. IfErr told (PointUnheld w held ca)) → IfOk r (IsJudged point w held ca)
judged point w held ca (Ok (Ok p)) stands fails unheld = stands
judged point w held ca (Ok (Err x)) stands fails unheld = (fails, unheld)
judged point w held ca (Err e) stands fails unheld = tt
