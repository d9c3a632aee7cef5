-- Lemmas of bcder_number, for the crates above.
pub use Rattle.certs_basics.proofs.of_bcder_number.Writings
