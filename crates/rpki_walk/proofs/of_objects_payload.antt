-- Lemmas of objects_payload, for the crates above.
pub use Rattle.rpki_rules.proofs.of_objects_payload.Locators
