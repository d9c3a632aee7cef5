-- What is read at a lookup key.
use Rattle.std.proofs.Common.{ℕ, List, Option, Some, None, Result, Ok, Err}
use Rattle.std.specs.Prelude.{IfOk, MatchOption}
use Rattle.rpki_rules.specs.Certs.{Cert, Digests, Verdicts}
use Rattle.rpki_rules.specs.Chains.{CertAt}
use Rattle.rpki_rules.specs.World.{world_of}
use Rattle.rpki_rules.specs.rpki_bundle.Bundle.{BundleValue}
use Rattle.rpki_judge.specs.Evidence.{IsReadCert}
use Rattle.rpki_standing.specs.Lookups.{NoCertAt}

-- The certificate there, as the judge is given it.
pub cert_told : {E : Type 0} (b : BundleValue) (uri : List ℕ) (r : Result (Option Cert) E)
    → IfOk r (λ found. (d : Digests) (v : Verdicts) → MatchOption found (NoCertAt (world_of d v b) uri) (λ c. CertAt (world_of d v b) uri c))
    → IfOk r (λ found. (d : Digests) (v : Verdicts) → IsReadCert (λ c. c) (world_of d v b) uri found)
cert_told b uri (Ok None) h = h
cert_told b uri (Ok (Some c)) h = h
cert_told b uri (Err e) h = h
