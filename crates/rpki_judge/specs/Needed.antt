-- What is needed of certificates, by what they claim.
use Rattle.std.specs.Prelude.{◌≡◌, ℕ}
use Rattle.rpki_judge.specs.resources_chain.Sets.{InRuns, IsRunsOf}
use Rattle.rpki_judge.specs.resources_chain.Claims.{Choice, Lists, Keeps}
use Rattle.rpki_judge.specs.resources.Resources.{Resources}
use Rattle.rpki_rules.specs.Certs.{Cert}
use Rattle.rpki_rules.specs.Kinds.{Kind, Ipv4, Ipv6, As, of_kind, InSet}
use Rattle.rpki_rules.specs.Judge.{NeedAbove, NeedWith}
use Rattle.rpki_judge.specs.declared.claims.Claims.{Claims}

-- What is claimed of a kind.
abbrev pub claimed : Claims → Kind → Choice
claimed c Ipv4 = c.v4.now
claimed c Ipv6 = c.v6.now
claimed c As = c.asn.now

-- The claims are the certificate's.
pub record AreClaims (c : Cert) (claims : Claims) : Type 0 where
  pub policy : claims.policy ≡ c.tbs.overclaim
  pub asn : claims.asn.now ≡ c.tbs.asn
  pub v4 : claims.v4.now ≡ c.tbs.v4
  pub v6 : claims.v6.now ≡ c.tbs.v6

-- Each number that is needed is listed.
abbrev pub ListsAll : Claims → Resources → Type 0
ListsAll c need =
    ((n : ℕ) → InRuns need.asn n → Lists c.asn.now n)
    × ((n : ℕ) → InRuns need.ipv4 n → Lists c.v4.now n)
    × ((n : ℕ) → InRuns need.ipv6 n → Lists c.v6.now n)

-- Each number that is needed is listed, or its kind is inherited.
abbrev pub KeepsAll : Claims → Resources → Type 0
KeepsAll c need =
    ((n : ℕ) → InRuns need.asn n → Keeps c.asn.now n)
    × ((n : ℕ) → InRuns need.ipv4 n → Keeps c.v4.now n)
    × ((n : ℕ) → InRuns need.ipv6 n → Keeps c.v6.now n)

-- In each kind the set has the numbers that P holds of.
abbrev pub IsNeed : (Kind → ℕ → Type 0) → Resources → Type 0
IsNeed P need = (k : Kind) → IsRunsOf (P k) (of_kind need k)

-- What is needed above a certificate, at whose issuer's point the manifest's certificate claims so much.
abbrev pub IsNeedAt : Claims → Claims → Resources → Resources → Type 0
IsNeedAt c m need =
    IsNeed (λ k. NeedWith m.policy (claimed m k) (NeedAbove c.policy (claimed c k) (InSet need k)))
