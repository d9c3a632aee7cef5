-- Lemmas of bcder_source, for the crates above.
pub use Rattle.resources_ip_prefix.proofs.of_bcder_source.Moves
