-- What a certificate claims.
use Rattle.rpki_walk.specs.resources_chain.Claims.{Choice}
use Rattle.rpki_walk.specs.resources_chain.declared.claims.Overclaim.{Overclaim}

-- What it claims of each kind (RFC 3779), and what becomes of numbers that its issuer doesn't hold (RFC 8360 4.2).
pub record ClaimValue : Type 0 where
  pub mode : Overclaim
  pub asn : Choice
  pub ipv4 : Choice
  pub ipv6 : Choice
