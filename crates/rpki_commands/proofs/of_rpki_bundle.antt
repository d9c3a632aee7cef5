-- Lemmas of rpki_bundle, for the crates above.
pub use Rattle.rpki_validator.proofs.of_rpki_bundle.OneBundle
pub use Rattle.rpki_validator.proofs.of_rpki_bundle.Orders
pub use Rattle.rpki_validator.proofs.of_rpki_bundle.Texts
