-- Certificates of octets, and at a lookup key.
use Rattle.std.proofs.Common.{◌≡◌, ◌∙◌, ℕ, List, Option, Some, None, Result, Ok, Err, sym, subst}
use Rattle.std.specs.Prelude.{IfOk, MatchOption}
use Rattle.certs_cert.specs.bcder_source.Errors.{OnContent}
use Rattle.certs_cert.specs.bcder_source.declared.error.DecodeError.{DecodeError}
use Rattle.rpki_standing.specs.rpki_bundle.Bundle.{BundleValue}
use Rattle.rpki_rules.specs.Certs.{Cert, CertText, Digests, Verdicts}
use Rattle.rpki_rules.specs.World.{World, find_object, world_of}
use Rattle.rpki_rules.specs.Chains.{CertAt}
use Rattle.rpki_standing.specs.Lookups.{IsNoCert, NoCertAt}

-- The octets that were seen were refused.
pub no_cert : {E : Type 0} (e f : DecodeError E) (seen octets : List ℕ) → e ≡ f → (OnContent f (IsNoCert seen) → IsNoCert seen) → OnContent e (IsNoCert seen) → seen ≡ octets → IsNoCert octets
no_cert {E} e f seen octets is told refused same = subst IsNoCert same (told (subst (λ (z : DecodeError E). OnContent z (IsNoCert seen)) is refused))

-- What the object with that lookup key reads as.
pub cert_there : (w : World) (uri octets : List ℕ) (found : Option Cert) → w.object uri ≡ Some octets → MatchOption found (IsNoCert octets) (λ c. CertText octets c) → MatchOption found (NoCertAt w uri) (λ c. CertAt w uri c)
cert_there w uri octets None held n = λ c h.
    let e : Some h.octets ≡ Some octets = sym h.held ∙ held in
    let same : h.octets ≡ octets = cc in
    n c (subst (λ (o : List ℕ). CertText o c) same h.reads)
cert_there w uri octets (Some c) held reads = record { octets = octets; held = held; reads = reads }

pub cert_told : {E : Type 0} (r : Result (Option Cert) E) (b : BundleValue) (uri octets : List ℕ) → find_object b.objects uri ≡ Some octets
    → IfOk r (λ found. MatchOption found (IsNoCert octets) (λ c. CertText octets c))
    → IfOk r (λ found. (d : Digests) (v : Verdicts) → MatchOption found (NoCertAt (world_of d v b) uri) (λ c. CertAt (world_of d v b) uri c))
cert_told (Ok found) b uri octets held h = λ d v. cert_there (world_of d v b) uri octets found held h
cert_told (Err e) b uri octets held h = tt
