-- Lemmas of resources_ip_prefix, for the crates above.
pub use Rattle.resources_ip_prefix.proofs.AddrTexts
pub use Rattle.resources_ip_prefix.proofs.Printed
