-- Lemmas of bcder_primitive, for the crates above.
pub use Rattle.certs_name.proofs.of_bcder_primitive.Primitives
