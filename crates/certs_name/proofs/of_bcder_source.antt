-- Lemmas of bcder_source, for the crates above.
pub use Rattle.certs_basics.proofs.of_bcder_source.Moves
