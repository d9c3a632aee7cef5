-- The three kinds of number resources, and what a certificate says of each. Of an IPv4 address the numbers are those of
-- 128 bits that begin with its 32 (RFC 3779 2.1.1).
use Rattle.certs_extension.specs.resources_chain.Claims.{Choice}
pub use Rattle.certs_extension.specs.resources_chain.Kinds.{Kind, Ipv4, Ipv6, As}
use Rattle.certs_extension.specs.Cert.{CertValue}

-- What the certificate says of a kind of number.
abbrev pub claim : CertValue → Kind → Choice
claim c Ipv4 = c.tbs.v4
claim c Ipv6 = c.tbs.v6
claim c As = c.tbs.asn
