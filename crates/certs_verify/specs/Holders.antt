-- A certificate that was verified, what it holds, and by which locator its anchor was found.
use Rattle.std.specs.Prelude.{List, String}
use Rattle.std.specs.declared.alloc.Global.{Global}
use Rattle.certs_verify.specs.resources_chain.Sets.{Run}
use Rattle.certs_verify.specs.certs_extension.Cert.{CertValue}
use Rattle.certs_verify.specs.certs_extension.Verified.{HolderValue}

pub record ResourceCertValue : Type 0 where
  pub holder : HolderValue
  -- what the locator is called
  pub tal : String Global

-- The runs of what is held of each kind.
pub record HeldValue : Type 0 where
  pub v4 : List Run
  pub v6 : List Run
  pub asn : List Run

-- The certificate, with what it holds.
abbrev pub holding : CertValue → HeldValue → HolderValue
holding c h = record { cert = c; v4 = h.v4; v6 = h.v6; asn = h.asn }
