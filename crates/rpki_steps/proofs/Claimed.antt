-- What an authority holds, by its value.
use Rattle.std.proofs.Common.{ℕ}
use Rattle.rpki_standing.specs.certs_extension.Verified.{held_by}
use Rattle.rpki_steps.specs.certs_verify.Holders.{ResourceCertValue}
use Rattle.rpki_rules.specs.certs_x509.declared.errors.verification.Overclaimed.{Overclaimed}
use Rattle.rpki_rules.specs.Certs.{Cert}
use Rattle.rpki_rules.specs.Chains.{Fits}
use Rattle.rpki_rules.specs.Kinds.{Kind, Ipv4, Ipv6, As, InSet}
use Rattle.rpki_rules.specs.Reasons.{FitsKind, kinds}
use Rattle.rpki_rules.specs.ReasonViews.{kind_claimed}
use Rattle.rpki_rules.proofs.Firsts.{none_fails}
use Rattle.rpki_rules.proofs.ReasonTests.{fit_kinds}
use Rattle.rpki_steps.specs.Claims.{IsUnfit}
use Rattle.rpki_steps.specs.Holders.{sets_of}

-- A claim of which a kind doesn't fit doesn't fit.
pub unfit_not : (held : Kind → ℕ → Type 0) (c : Cert) (x : Overclaimed) → IsUnfit held c x → ¬ (Fits held c)
unfit_not held c x u f = none_fails (FitsKind held c) kinds (kind_claimed x) (fit_kinds held c f) u.first

module _ (c : Cert) (ca : ResourceCertValue) where
  -- What fits in the sets that an authority has fits in what it holds.
  pub by_holder : Fits (InSet (sets_of ca)) c → Fits (held_by ca.holder) c
  by_holder f Ipv4 = f Ipv4
  by_holder f Ipv6 = f Ipv6
  by_holder f As = f As

  by_sets : Fits (held_by ca.holder) c → Fits (InSet (sets_of ca)) c
  by_sets f Ipv4 = f Ipv4
  by_sets f Ipv6 = f Ipv6
  by_sets f As = f As

  -- What doesn't fit in the sets that it has doesn't fit in what it holds.
  pub unfit_there : (x : Overclaimed) → IsUnfit (InSet (sets_of ca)) c x → ¬ (Fits (held_by ca.holder) c)
  unfit_there x u f = unfit_not (InSet (sets_of ca)) c x u (by_sets f)
