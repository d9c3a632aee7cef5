-- What a certificate claims, and what it then holds (RFC 6487 7.2, RFC 8360 4.2).
use Rattle.std.specs.Prelude.{ℕ, Result, Ok, Err}
use Rattle.rpki_steps.specs.certs_basics.Lists.{FirstFailing}
use Rattle.rpki_steps.specs.resources.Resources.{Resources}
use Rattle.rpki_rules.specs.certs_x509.declared.errors.verification.Overclaimed.{Overclaimed}
use Rattle.rpki_rules.specs.Certs.{Cert}
use Rattle.rpki_rules.specs.Chains.{Fits}
use Rattle.rpki_rules.specs.Kinds.{Kind}
use Rattle.rpki_rules.specs.Reasons.{AreUnheld, FitsKind, kinds}
use Rattle.rpki_rules.specs.ReasonViews.{kind_claimed, runs_claimed}
use Rattle.rpki_walk.specs.Repository.{HasKept}
use Rattle.rpki_walk.specs.Claimed.{ClaimValue}

-- What it claims of each kind, and its policy.
abbrev pub claims_of : Cert → ClaimValue
claims_of c = record { mode = c.tbs.overclaim; asn = c.tbs.asn; ipv4 = c.tbs.v4; ipv6 = c.tbs.v6 }

-- In what follows `held` says what is held above.

-- The first kind of which the claim doesn't fit, with the numbers that are listed and aren't held.
pub record IsUnfit (held : Kind → ℕ → Type 0) (c : Cert) (x : Overclaimed) : Type 0 where
  pub first : FirstFailing (FitsKind held c) kinds (kind_claimed x)
  pub unheld : AreUnheld held c (kind_claimed x) (runs_claimed x)

-- Its claim fits, or why it doesn't.
abbrev pub TellsFit : (Kind → ℕ → Type 0) → Cert → Result (Unit {0}) Overclaimed → Type 0
TellsFit held c (Ok x) = Fits held c
TellsFit held c (Err x) = IsUnfit held c x

-- The sets of the numbers that it holds, or why its claim doesn't fit.
abbrev pub FindsSets : (Kind → ℕ → Type 0) → Cert → Result Resources Overclaimed → Type 0
FindsSets held c (Ok sets) = Fits held c × HasKept held c sets
FindsSets held c (Err x) = IsUnfit held c x
