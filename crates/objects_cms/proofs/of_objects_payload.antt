-- Lemmas of objects_payload, for the crates above.
pub use Rattle.objects_payload.proofs.Objects
