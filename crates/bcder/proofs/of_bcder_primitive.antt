-- Lemmas of bcder_primitive, for the crates above.
pub use Rattle.bcder_octets.proofs.of_bcder_primitive.Numbers
pub use Rattle.bcder_octets.proofs.of_bcder_primitive.Primitives
