-- Lemmas of bcder, for the crates above.
pub use Rattle.objects_payload.proofs.of_bcder.Read
