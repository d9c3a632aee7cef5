-- Lemmas of bcder_source, for the crates above.
pub use Rattle.certs_name.proofs.of_bcder_source.Moves
