-- Lemmas of rpki_rules, for the crates above.
pub use Rattle.rpki_rules.proofs.Readings
