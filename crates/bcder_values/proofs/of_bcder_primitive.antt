-- Lemmas of bcder_primitive, for the crates above.
pub use Rattle.bcder_content.proofs.of_bcder_primitive.Compose
pub use Rattle.bcder_content.proofs.of_bcder_primitive.Numbers
pub use Rattle.bcder_content.proofs.of_bcder_primitive.Pieces
pub use Rattle.bcder_content.proofs.of_bcder_primitive.Primitives
pub use Rattle.bcder_content.proofs.of_bcder_primitive.WrittenNumbers
