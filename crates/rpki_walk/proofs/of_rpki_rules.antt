-- Lemmas of rpki_rules, for the crates above.
pub use Rattle.rpki_rules.proofs.Fronts
pub use Rattle.rpki_rules.proofs.Orders
pub use Rattle.rpki_rules.proofs.Readings
pub use Rattle.rpki_rules.proofs.Sets
