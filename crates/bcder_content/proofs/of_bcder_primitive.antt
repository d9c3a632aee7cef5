-- Lemmas of bcder_primitive, for the crates above.
pub use Rattle.bcder_primitive.proofs.Numbers
pub use Rattle.bcder_primitive.proofs.Primitives
pub use Rattle.bcder_primitive.proofs.Compose
pub use Rattle.bcder_primitive.proofs.Pieces
pub use Rattle.bcder_primitive.proofs.WrittenNumbers
