-- A certificate that was verified, as the rules see it: the certificate, and the sets of the numbers that it holds.
use Rattle.certs_verify.specs.Holders.{ResourceCertValue}
use Rattle.rpki_steps.specs.resources.Resources.{Resources}
use Rattle.rpki_rules.specs.Certs.{Cert}

abbrev pub cert_of : ResourceCertValue → Cert
cert_of r = r.holder.cert

abbrev pub sets_of : ResourceCertValue → Resources
sets_of r = record { asn = r.holder.asn; ipv4 = r.holder.v4; ipv6 = r.holder.v6 }
