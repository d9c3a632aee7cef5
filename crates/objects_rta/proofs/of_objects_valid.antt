-- Lemmas of objects_valid, for the crates above.
pub use Rattle.objects_valid.proofs.Parts
