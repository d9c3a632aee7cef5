-- Lemmas of objects_payload, for the crates above.
pub use Rattle.objects_payload.proofs.Locators
pub use Rattle.objects_payload.proofs.RelaxedInspected
pub use Rattle.objects_payload.proofs.RelaxedObjects
