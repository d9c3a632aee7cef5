-- Lemmas of resources_chain, for the crates above.
pub use Rattle.resources_chain.proofs.ClaimLemmas
pub use Rattle.resources_chain.proofs.CutLemmas
pub use Rattle.resources_chain.proofs.ListTexts
pub use Rattle.resources_chain.proofs.SetLemmas
