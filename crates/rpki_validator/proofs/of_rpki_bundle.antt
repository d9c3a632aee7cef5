-- Lemmas of rpki_bundle, for the crates above.
pub use Rattle.rpki_bundle.proofs.OneBundle
pub use Rattle.rpki_bundle.proofs.Orders
pub use Rattle.rpki_bundle.proofs.Texts
