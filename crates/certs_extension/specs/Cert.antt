-- What a certificate has, as its getters tell it.
use Rattle.std.specs.Prelude.{ℕ, Bool, List, Option}
use Rattle.certs_extension.specs.bcder_tree.declared.mode.Mode.{Mode}
use Rattle.certs_extension.specs.bcder_content.Kept.{CapturedValue}
use Rattle.certs_extension.specs.resources_chain.declared.claims.Overclaim.{Overclaim}
use Rattle.certs_extension.specs.resources_chain.Claims.{Choice}
use Rattle.certs_extension.specs.declared.forms.KeyUsage.{KeyUsage}
use Rattle.certs_extension.specs.certs_basics.Keys.{KeyValue}
pub use Rattle.certs_extension.specs.CertAccess.{AccessValue, no_access}

-- What is signed of a certificate.
pub record TbsValue : Type 0 where
  pub serial : ℕ
  -- whether NULL stands in the algorithm
  pub has_null : Bool
  pub issuer : CapturedValue
  pub not_before : ℕ
  pub not_after : ℕ
  pub subject : CapturedValue
  pub key : KeyValue
  pub basic_ca : Option Bool
  pub subject_key_identifier : List ℕ
  pub authority_key_identifier : Option (List ℕ)
  pub key_usage : KeyUsage
  pub extended_key_usage : Option (List (List ℕ))
  pub crl_uri : Option (List ℕ)
  pub ca_issuer : Option (List ℕ)
  pub access : AccessValue
  pub overclaim : Overclaim
  pub v4 : Choice
  pub v6 : Choice
  pub asn : Choice

-- Signed octets, and the signature over them.
pub record SignedValue : Type 0 where
  -- the very octets that spell what is signed
  pub message : List ℕ
  -- whether NULL stands in the outer algorithm
  pub has_null : Bool
  -- the octets of the signature
  pub signature : List ℕ
  -- how many bits of its last octet are unused
  pub unused : ℕ
  -- the mode in which what is signed stands
  pub mode : Mode

pub record CertValue : Type 0 where
  pub signed : SignedValue
  pub tbs : TbsValue
