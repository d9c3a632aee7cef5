-- Lemmas of bcder, for the crates above.
pub use Rattle.resources_ip_prefix.proofs.of_bcder.Written
