-- Lemmas of bcder, for the crates above.
pub use Rattle.resources_asn.proofs.of_bcder.Written
