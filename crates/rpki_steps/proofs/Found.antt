-- What a point is told with, as one part is found after another.
use Rattle.std.proofs.Common.{◌≡◌, ◌∙◌, ℕ, List, Option, Some, None, Result, Ok, Err, MatchOption, sym, ap, subst}
use Rattle.std.specs.Prelude.{IfOk}
use Rattle.rpki_rules.specs.Certs.{Cert}
use Rattle.rpki_rules.specs.Points.{Point}
use Rattle.rpki_steps.specs.declared.point.files.File.{File}
use Rattle.rpki_steps.specs.PointFiles.{AreFilesOf, NoFilesOf}
use Rattle.rpki_steps.specs.Parts.{ArePartsOf, HasNoParts}

-- A value that was kept with what was found.
abbrev pub IsKeptWith : {T U E : Type 0} → T → Result (Option U) E → Result (Option (T × U)) E → Type 0
IsKeptWith value found r = IfOk r (λ kept. MatchOption kept (found ≡ Ok None) (λ p. (p.0 ≡ value) × (found ≡ Ok (Some p.1))))

module _ {V E : Type 0} (object : List ℕ → Option (List ℕ)) (ca : Cert) (p : Point) (files_of : V → List File) where
  -- The files are found.
  abbrev AreFound : Result (Option V) E → Type 0
  AreFound r = IfOk r (λ o. MatchOption o (NoFilesOf object ca p.manifest) (λ x. AreFilesOf object ca p.manifest (files_of x)))

  -- And are kept with the URI.
  pub parts_told : (uri : List ℕ) (found : Result (Option V) E) (r : Result (Option (List ℕ × V)) E)
      → p.object.cert.tbs.crl_uri ≡ Some uri → AreFound found → IsKeptWith uri found r
      → IfOk r (λ kept. MatchOption kept (HasNoParts object ca p) (λ q. ArePartsOf object ca p q.0 (files_of q.1)))
  parts_told uri found (Err e) named told kept = tt
  parts_told uri found (Ok None) named told kept =
      let none : NoFilesOf object ca p.manifest = subst AreFound kept told in
      λ u fs a. none fs a.files_are
  parts_told uri found (Ok (Some q)) named told kept = record {
    uri_is = named ∙ ap (λ (u : List ℕ). Some u) (sym kept.0);
    files_are = subst AreFound kept.1 told;
  }
