-- Claims kind by kind.
use Rattle.std.proofs.Common.{◌≡◌, List, Result, Ok, Err, sym, subst}
use Rattle.std.specs.Prelude.{IfOk, OnErr}
use Rattle.rpki_steps.specs.certs_x509.declared.errors.verification.Overclaimed.{Overclaimed}
use Rattle.rpki_steps.specs.resources.Resources.{Resources}
use Rattle.rpki_steps.specs.resources_chain.Sets.{Run}
use Rattle.rpki_rules.specs.Certs.{Cert}
use Rattle.rpki_rules.specs.Chains.{Fits}
use Rattle.rpki_rules.specs.Kinds.{Kind, Ipv4, Ipv6, As, InSet}
use Rattle.rpki_rules.specs.Reasons.{AreUnheld, FitsKind, kinds}
use Rattle.rpki_rules.specs.ReasonViews.{kind_claimed, runs_claimed}
use Rattle.rpki_walk.specs.Repository.{HasKept}
use Rattle.rpki_walk.specs.Claimed.{ClaimValue}
use Rattle.rpki_walk.specs.Steps.{AreKept, FindsHeld, FitsAll, FitsOf, FitsOrTells, TellsUnfit, UnfitOf}
use Rattle.rpki_rules.proofs.Firsts.{fails_also}
use Rattle.rpki_steps.specs.Claims.{FindsSets, IsUnfit, TellsFit, claims_of}

module _ (c : Cert) (held : Resources) where
  pub all_fit : FitsAll (claims_of c) held → Fits (InSet held) c
  all_fit f Ipv4 = f.v4s
  all_fit f Ipv6 = f.v6s
  all_fit f As = f.asns

  pub fit_all : Fits (InSet held) c → FitsAll (claims_of c) held
  fit_all f = record { asns = f As; v4s = f Ipv4; v6s = f Ipv6 }

  all_kept : (next : Resources) → AreKept (claims_of c) held next → HasKept (InSet held) c next
  all_kept next k Ipv4 = k.v4s
  all_kept next k Ipv6 = k.v6s
  all_kept next k As = k.asns

  kind_fits : (k : Kind) → FitsOf (claims_of c) held k → FitsKind (InSet held) c k
  kind_fits Ipv4 f = f
  kind_fits Ipv6 f = f
  kind_fits As f = f

  fits_kind : (k : Kind) → FitsKind (InSet held) c k → FitsOf (claims_of c) held k
  fits_kind Ipv4 f = f
  fits_kind Ipv6 f = f
  fits_kind As f = f

  kind_unheld : (k : Kind) (runs : List Run) → UnfitOf (claims_of c) held k runs → AreUnheld (InSet held) c k runs
  kind_unheld Ipv4 runs u = u
  kind_unheld Ipv6 runs u = u
  kind_unheld As runs u = u

  unfit : (x : Overclaimed) → TellsUnfit (claims_of c) held x → IsUnfit (InSet held) c x
  unfit x u = record {
    first = fails_also (FitsOf (claims_of c) held) (FitsKind (InSet held) c) kinds (kind_claimed x) kind_fits (fits_kind (kind_claimed x)) u.first;
    unheld = kind_unheld (kind_claimed x) (runs_claimed x) u.outside;
  }

  sets_found : (found : Result Resources Overclaimed) → FindsHeld (claims_of c) held found → FindsSets (InSet held) c found
  sets_found (Ok next) h = (all_fit h.0, all_kept next h.1)
  sets_found (Err x) u = unfit x u

  fit_found : (found : Result (Unit {0}) Overclaimed) → FitsOrTells (claims_of c) held found → TellsFit (InSet held) c found
  fit_found (Ok x) f = all_fit f
  fit_found (Err x) u = unfit x u

  module _ (claim : ClaimValue) (holding : Resources) (same : claim ≡ claims_of c) (lent : holding ≡ held) where
    pub fits_told : {E : Type 0} (r : Result (Result (Unit {0}) Overclaimed) E) → IfOk r (FitsOrTells claim holding) → IfOk r (TellsFit (InSet held) c)
    fits_told (Ok found) h = fit_found found (subst (λ (x : ClaimValue). FitsOrTells x held found) same (subst (λ (x : Resources). FitsOrTells claim x found) lent h))
    fits_told (Err e) h = tt

    pub fits_wanted : {A E : Type 0} (r : Result A E) → OnErr r (¬ (FitsAll claim holding)) → OnErr r (¬ (Fits (InSet held) c))
    fits_wanted (Ok found) h = tt
    fits_wanted (Err e) h = λ f. h (subst (λ (x : Resources). FitsAll claim x) (sym lent) (subst (λ (x : ClaimValue). FitsAll x held) (sym same) (fit_all f)))

    pub sets_told : {E : Type 0} (r : Result (Result Resources Overclaimed) E) → IfOk r (FindsHeld claim holding) → IfOk r (FindsSets (InSet held) c)
    sets_told (Ok found) h = sets_found found (subst (λ (x : ClaimValue). FindsHeld x held found) same (subst (λ (x : Resources). FindsHeld claim x found) lent h))
    sets_told (Err e) h = tt
