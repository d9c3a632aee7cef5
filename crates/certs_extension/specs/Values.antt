-- Values of extensions, in a mode; in DER they are those of RFC 6487 4.8.
pub use Rattle.certs_extension.specs.Extensions.{AreConstraints, ArePoliciesBody, IsAuthority, IsAuthorityBody, IsConstraintsBody, IsPolicy, IsPolicyBody, IsUsage, alone}
