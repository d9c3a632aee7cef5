-- Lemmas of bcder_octets, for the crates above.
pub use Rattle.resources_ip_block.proofs.of_bcder_octets.Written
