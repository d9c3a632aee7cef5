-- What has to be there of the slots (RFC 6487 4.8.2, 4.8.4, 4.8.9).
use Rattle.std.specs.Prelude.{◌≡◌, ℕ, List, Some}
use Rattle.certs_extension.specs.resources_chain.declared.claims.Overclaim.{Overclaim}
use Rattle.certs_extension.specs.declared.forms.KeyUsage.{KeyUsage}
use Rattle.certs_extension.specs.declared.claims.slots.Slots.{Slots}
use Rattle.certs_extension.specs.Finishing.{HasClaims}

-- The policy under which all resources stand, the identifier of the subject's key, and its usage.
pub record HasNeeded (s : Slots) (needed : Overclaim × List ℕ × KeyUsage) : Type 0 where
  pub claims : HasClaims s needed.0
  pub subject_key_identifier : s.subject_key_identifier ≡ Some needed.1
  pub key_usage : s.key_usage ≡ Some needed.2
